-- Every number of a step bound fits: at most 64 facts, 4 in a body, a weight of 16,320 and 256 places.
use Prim.Native.Nat.{ℕ, ◌+◌, ◌*◌, ◌≤◌}
use native.Mathlib.Nat.{mul-le-mul_right}
use native.Mathlib.Omega.{arith}

pub product-few : (B W : ℕ) → B ≤ 4 → W ≤ 16320 → B * W ≤ 65280
product-few B W b w = omega (arith, mul-le-mul_right W b)

pub bound-few : (G B W M : ℕ) → G ≤ 64 → B ≤ 4 → W ≤ 16320 → M ≤ 256 → (G + B * W) * (M + 2) ≤ 16858752
bound-few G B W M g b w m =
    let all : G + B * W ≤ 65344 = omega (arith, product-few B W b w) in
    omega (arith, mul-le-mul_right (M + 2) all)
