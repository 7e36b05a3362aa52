-- The definition: what an expression and a comparison come to, over the whole numbers. `None` is: undefined.
use Rattle.std.specs.Prelude.{Bool, false, not, cond, ◌&&◌, ℕ, suc, ◌/◌, eqb, leb, ℤ, pos, negsuc, neg_ℤ, ◌+ℤ◌, ◌-ℤ◌, ◌*ℤ◌}
use Rattle.std.specs.Prelude.{Option, Some, None}
use Rattle.std.specs.Int.Signed.{lt_z, le_z}

-- ---- the range: "-2,147,483,648..2,147,483,647". `negsuc n` is -(n + 1)

abbrev pub lowest : ℤ
lowest = negsuc 2147483647

abbrev pub highest : ℤ
highest = pos 2147483647

unfoldable pub in_range : ℤ → Bool
in_range z = le_z lowest z && le_z z highest

-- "Each operation is exact; its value is undefined if it lies outside" the range
unfoldable pub exact : ℤ → Option ℤ
exact z = cond (in_range z) (Some z) None

-- ---- the operations

-- whether two whole numbers are the same
abbrev pub equal : ℤ → ℤ → Bool
equal (pos a) (pos b) = eqb a b
equal (pos a) (negsuc b) = false
equal (negsuc a) (pos b) = false
equal (negsuc a) (negsuc b) = eqb a b

-- "its value is undefined if .. the divisor is 0"
unfoldable pub unless_zero : ℤ → Option ℤ → Option ℤ
unless_zero b v = cond (equal b (pos 0)) None v

abbrev pub sum_of : ℤ → ℤ → Option ℤ
sum_of a b = exact (a +ℤ b)

abbrev pub difference_of : ℤ → ℤ → Option ℤ
difference_of a b = exact (a -ℤ b)

abbrev pub product_of : ℤ → ℤ → Option ℤ
product_of a b = exact (a *ℤ b)

-- by a divisor above 0, rounded down; `negsuc n`, which is -(n + 1), by d comes to -(n / d + 1)
abbrev pub down : ℤ → ℕ → ℤ
down (pos n) d = pos (n / d)
down (negsuc n) d = negsuc (n / d)

-- "The quotient must be the greatest whole number not above the exact one"; by a divisor below 0 it is that of both numbers with their signs turned
unfoldable pub floor_z : ℤ → ℤ → ℤ
floor_z a (pos b) = down a b
floor_z a (negsuc b) = down (neg_ℤ a) (suc b)

-- what the quotient leaves of the dividend; "the remainder takes the divisor's sign" (`division`)
unfoldable pub mod_z : ℤ → ℤ → ℤ
mod_z a b = a -ℤ b *ℤ floor_z a b

unfoldable pub quotient_of : ℤ → ℤ → Option ℤ
quotient_of a b = unless_zero b (exact (floor_z a b))

unfoldable pub remainder_of : ℤ → ℤ → Option ℤ
remainder_of a b = unless_zero b (exact (mod_z a b))

-- ---- expressions: "An expression is an operation byte and two slots"

-- "0 the first slot alone .., 1 sum, 2 difference, 3 product, 4 quotient, 5 remainder"; no other number is an operation
unfoldable pub operate : ℕ → ℤ → ℤ → Option ℤ
operate op a b =
    cond (eqb op 0) (Some a)
    (cond (eqb op 1) (sum_of a b)
    (cond (eqb op 2) (difference_of a b)
    (cond (eqb op 3) (product_of a b)
    (cond (eqb op 4) (quotient_of a b)
    (cond (eqb op 5) (remainder_of a b) None)))))

-- f of two values that are both numbers; of an undefined value nothing is known
unfoldable pub on_numbers : (ℤ → ℤ → Option ℤ) → Option ℤ → Option ℤ → Option ℤ
on_numbers f (Some a) (Some b) = f a b
on_numbers f (Some a) None = None
on_numbers f None right = None

-- the operation on what its two slots hold; of "the first slot alone" the second is not looked at
unfoldable pub evaluate : ℕ → Option ℤ → Option ℤ → Option ℤ
evaluate op left right = cond (eqb op 0) left (on_numbers (operate op) left right)

-- ---- comparisons: "Comparators 0..5: equal, unequal, less, at most, greater, at least"

unfoldable pub holds : ℕ → ℤ → ℤ → Bool
holds cmp a b =
    cond (eqb cmp 0) (equal a b)
    (cond (eqb cmp 1) (not (equal a b))
    (cond (eqb cmp 2) (lt_z a b)
    (cond (eqb cmp 3) (le_z a b)
    (cond (eqb cmp 4) (lt_z b a)
    (cond (eqb cmp 5) (le_z b a) false)))))

-- no other number is a comparator: what it would say is undefined, and not false
unfoldable pub judge : ℕ → ℤ → ℤ → Option Bool
judge cmp a b = cond (leb cmp 5) (Some (holds cmp a b)) None

-- "if it has an undefined side, the guard is undefined"
unfoldable pub compare : ℕ → Option ℤ → Option ℤ → Option Bool
compare cmp (Some a) (Some b) = judge cmp a b
compare cmp (Some a) None = None
compare cmp None right = None
