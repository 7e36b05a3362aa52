-- The definition: words of 32 bits in a list of bytes. "Numbers are little-endian; facts' arguments are two's complement."
use Rattle.std.specs.Prelude.{List, [], ◌∷◌, cond, ℕ, suc, ◌+◌, ◌-◌, ◌*◌, ◌/◌, ◌%◌, ltb, ℤ, pos, negsuc, ◌-ℤ◌, get_or, set}

-- the byte at a place, and 0 past the end
abbrev pub byte_at : List ℕ → ℕ → ℕ
byte_at s at = get_or s at 0

-- the number of four bytes, the lowest first
abbrev pub joined : ℕ → ℕ → ℕ → ℕ → ℕ
joined a b c d = a + b * 256 + c * 65536 + d * 16777216

-- the number of the four bytes from `at` on
unfoldable pub u32_at : List ℕ → ℕ → ℕ
u32_at s at = joined (byte_at s at) (byte_at s (at + 1)) (byte_at s (at + 2)) (byte_at s (at + 3))

-- two's complement: a number from 2 ^ 31 on stands for itself less 2 ^ 32
unfoldable pub signed_of : ℕ → ℤ
signed_of n = cond (ltb n 2147483648) (pos n) (pos n -ℤ pos 4294967296)

-- and back: a negative number, -(n + 1), stands as itself and 2 ^ 32
unfoldable pub bits_of : ℤ → ℕ
bits_of (pos n) = n
bits_of (negsuc n) = 4294967296 - suc n

-- the signed number of the four bytes from `at` on
unfoldable pub i32_at : List ℕ → ℕ → ℤ
i32_at s at = signed_of (u32_at s at)

-- the four bytes of n, the lowest first
unfoldable pub bytes4 : ℕ → List ℕ
bytes4 n = n % 256 ∷ n / 256 % 256 ∷ n / 65536 % 256 ∷ n / 16777216 % 256 ∷ []

-- s with the four bytes of n from `at` on
unfoldable pub put_u32 : List ℕ → ℕ → ℕ → List ℕ
put_u32 s at n =
    set (set (set (set s at (n % 256)) (at + 1) (n / 256 % 256)) (at + 2) (n / 65536 % 256)) (at + 3) (n / 16777216 % 256)
