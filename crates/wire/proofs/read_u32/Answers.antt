-- `wire::read_u32` meets its contract: the bytes from the place on are those that the definition joins, and past the end both read 0.
use Rattle.std.proofs.Common.{◌≡◌, refl, ap, ◌∙◌, arith, ℕ, ◌+◌, ◌-◌, ◌<◌, ◌≤◌, List, [], length, drop, ⊎_elim, get_or-drop, length-drop, take_all}
use Rattle.std.specs.Prelude.{Option, Some, None}
use Rattle.std.specs.List.{PartBy}
use Rattle.std.specs.Option.{unwrap_or}
use Rattle.wire.specs.Wire.{byte_at, u32_at}
use Rattle.wire.proofs.Laws.{past-end}
use Rattle.wire.proofs.read_u32.Goals as goal

-- a byte of what stands from a place on, which is nothing past the end
rest-byte : {R : Type 0} (now : R → List ℕ) (s : List ℕ) (at : ℕ) (d : R) → now d ≡ [] → (o : Option R) → PartBy now s at (length s) o
    → (k : ℕ) → byte_at (now (unwrap_or o d)) k ≡ byte_at s (at + k)
rest-byte now s at d e None u k =
    let far : length s ≤ at + k = ⊎_elim (λ (l : length s < at). omega arith) (λ (l : length s < length s). omega arith) u.0 in
    ap (λ (l : List ℕ). byte_at l k) e ∙ past-end s (at + k) far
rest-byte now s at d e (Some x) u k =
    ap (λ (l : List ℕ). byte_at l k) (u.0.2 ∙ take_all (length s - at) (drop at s) (omega (arith, length-drop at s))) ∙ get_or-drop at s k 0

pub returns : goal.returns
unfolding u32_at
returns c =
    let b : (k : ℕ) → byte_at c.unwrap_or-rest.result.now k ≡ byte_at c.args.s.now (c.args.at + k) =
    λ k. ap (λ x. byte_at x.now k) c.unwrap_or-rest.ensures ∙ rest-byte (λ x. x.now) c.args.s.now c.args.at _ refl c.get.result c.get.ensures.lookup k in
    let first : c.args.at + 0 ≡ c.args.at = omega arith in
    rw (c.from_le_bytes.ensures, c.byte.ensures, c.byte-2.ensures, c.byte-3.ensures, c.byte-4.ensures, b 0, b 1, b 2, b 3, first)
