-- Worked cases of the definition: those of the text, and the ends of the range. Each is computed. Assumes nothing.
use Rattle.std.specs.Prelude.{◌≡◌, refl, ℤ, pos, negsuc}
use Rattle.std.specs.Prelude.{Some, None}
use Rattle.numbers.specs.Numbers.{lowest, highest, in_range, exact, unless_zero, sum_of, difference_of, product_of, floor_z, mod_z, quotient_of, remainder_of}

-- "-7 by 2 gives -4 and 1"
pub minus-seven-by-two : (quotient_of (negsuc 6) (pos 2) ≡ Some (negsuc 3)) × (remainder_of (negsuc 6) (pos 2) ≡ Some (pos 1))
unfolding quotient_of remainder_of floor_z mod_z unless_zero exact in_range
minus-seven-by-two = (refl, refl)

-- the other signs
pub seven-by-minus-two : (quotient_of (pos 7) (negsuc 1) ≡ Some (negsuc 3)) × (remainder_of (pos 7) (negsuc 1) ≡ Some (negsuc 0))
unfolding quotient_of remainder_of floor_z mod_z unless_zero exact in_range
seven-by-minus-two = (refl, refl)

pub minus-seven-by-minus-two : (quotient_of (negsuc 6) (negsuc 1) ≡ Some (pos 3)) × (remainder_of (negsuc 6) (negsuc 1) ≡ Some (negsuc 0))
unfolding quotient_of remainder_of floor_z mod_z unless_zero exact in_range
minus-seven-by-minus-two = (refl, refl)

-- "With document 01's rule -3 and 3 share a class": no longer, of five degrees
pub cold-and-mild : (quotient_of (negsuc 2) (pos 5) ≡ Some (negsuc 0)) × (quotient_of (pos 3) (pos 5) ≡ Some (pos 0))
unfolding quotient_of floor_z unless_zero exact in_range
cold-and-mild = (refl, refl)

-- "The lowest number by -1 still has no quotient and has remainder 0"
pub lowest-by-minus-one : (quotient_of lowest (negsuc 0) ≡ None) × (remainder_of lowest (negsuc 0) ≡ Some (pos 0))
unfolding quotient_of remainder_of floor_z mod_z unless_zero exact in_range
lowest-by-minus-one = (refl, refl)

-- nothing is divided by 0
pub by-zero : (a : ℤ) → (quotient_of a (pos 0) ≡ None) × (remainder_of a (pos 0) ≡ None)
unfolding quotient_of remainder_of unless_zero
by-zero a = (refl, refl)

-- the first sums past either end, and the last before it
pub past-highest : (sum_of highest (pos 1) ≡ None) × (difference_of highest (negsuc 0) ≡ None)
unfolding exact in_range
past-highest = (refl, refl)

pub past-lowest : (sum_of lowest (negsuc 0) ≡ None) × (difference_of lowest (pos 1) ≡ None)
unfolding exact in_range
past-lowest = (refl, refl)

pub ends-reached : (sum_of (pos 2147483646) (pos 1) ≡ Some highest) × (difference_of (negsuc 2147483646) (pos 1) ≡ Some lowest)
unfolding exact in_range
ends-reached = (refl, refl)

-- 46,340 is the last number whose square fits
pub squares : (product_of (pos 46340) (pos 46340) ≡ Some (pos 2147395600)) × (product_of (pos 46341) (pos 46341) ≡ None)
unfolding exact in_range
squares = (refl, refl)
