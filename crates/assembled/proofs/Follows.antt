-- The assembly follows the reading: it begins with it, every token leads both on or neither, and at the end of a text the buffer holds the table's
-- encoding, once the byte that ends it is laid. Each is what a token does in a phase (Phases), said of a buffer.
use Prim.Native.Nat.{ℕ, ◌+◌}
use mathlib.Core.Path.{◌≡◌, refl, sym, ap, ◌∙◌, subst}
use mathlib.Core.Bool.{true, false}
use Rattle.std.specs.Prelude.{Option, None, Some}
use mathlib.Core.List.{List, [], ◌∷◌, ◌++◌}
use native.Mathlib.Omega.{arith}
use lib.ListN.{length, set, replicate, length-append, length-replicate, get_or-replicate}
use Rattle.grammar.specs.Tree.{TableTree}
use Rattle.grammar.specs.Encode.{encode}
use Rattle.text.specs.Token.{Token}
use Rattle.parsing.specs.Progress.{Progress, declared, named, slashed, sized, ruled, head_named, head_wants, head_slot, head_done, head_next, headed, wants}
use Rattle.parsing.specs.Progress.{term, operated, formed, body, emptied, item_named, item_done, item_next, table_with}
use Rattle.parsing.specs.Edges.{step}
use Rattle.parsing.specs.Parsed.{whole}
use Rattle.assembly.specs.declared.Phase.TheVariants.{Declared, Stuck}
use Rattle.assembly.specs.declared.Assembly.{Assembly}
use Rattle.assembly.specs.Pieces.{lay_all}
use Rattle.assembly.specs.Moves.{here, moved, is_stuck, ends}
use Rattle.assembled.specs.Holds.{behind, table_bytes, front_of, bytes_of, phase_of, flat_of, Few, Held, Holds}
use Rattle.assembled.proofs.Putting.{held-alike, held-put, held-all, put, put-end}
use Rattle.assembled.proofs.Behind.{table-ends}
use Rattle.assembled.proofs.Links.{Follows, Outcome}
use Rattle.assembled.proofs.Phases.{outcome}
pub use Rattle.assembled.proofs.Putting.{length-lay, length-lay_all}
pub use Rattle.assembled.proofs.Near.{moved-near}

pub holds-begins : (n : ℕ) → Holds (declared []) (here 0 Declared) (replicate n 0)
unfolding front_of bytes_of phase_of Few table_bytes behind
holds-begins n = record { same = refl; held = record { each = λ i h. get_or-replicate n i 0 0 (rw (length-replicate {A = ℕ} n 0) at h) }; few = tt }

-- ---- a token

module _ {s : Progress} {a : Assembly} {buf : List ℕ} (t : Token) (h : Holds s a buf) where
  token-does : {o : Option Progress} → step s t ≡ o → Outcome (bytes_of s) o (moved a t)
  token-does {o} e =
      subst (λ (x : Assembly). Outcome (bytes_of s) o (moved x t)) (sym h.same)
      (subst (λ (x : Option Progress). Outcome (bytes_of s) x (moved (flat_of s) t)) e (outcome s h.few t))

  pub holds-step : {s' : Progress} → step s t ≡ Some s' → Holds s' (moved a t).to (lay_all (moved a t).pieces buf)
  holds-step {s'} e =
      let f : Follows (bytes_of s) s' (moved a t).to (moved a t).pieces = token-does e in
      record { same = f.same; held = held-alike (held-all (moved a t).pieces h.held) f.bytes; few = f.few }

  pub holds-stuck : step s t ≡ None → (moved a t).to.phase ≡ Stuck
  holds-stuck e = token-does e

-- ---- stuck or not

phase-free : (s : Progress) → is_stuck (phase_of s) ≡ false
unfolding phase_of is_stuck
phase-free (declared ns) = refl
phase-free (named ns k) = refl
phase-free (slashed ns) = refl
phase-free (sized ns) = refl
phase-free (ruled w) = refl
phase-free (head_named g hs k) = refl
phase-free (head_wants g hs k ts) = refl
phase-free (head_slot g hs k t ts) = refl
phase-free (head_done g hs h) = refl
phase-free (head_next g hs) = refl
phase-free (headed w kept removed) = refl
phase-free (wants s) = refl
phase-free (term s a) = refl
phase-free (operated s o a) = refl
phase-free (formed s f) = refl
phase-free (body g) = refl
phase-free (emptied g) = refl
phase-free (item_named g is k) = refl
phase-free (item_done g is i) = refl
phase-free (item_next g is) = refl

pub holds-free : {s : Progress} {a : Assembly} {buf : List ℕ} → Holds s a buf → is_stuck a.phase ≡ false
holds-free {s} h = ap (λ (x : Assembly). is_stuck x.phase) h.same ∙ phase-free s

pub never-stuck : {s : Progress} {a : Assembly} {buf : List ℕ} → Holds s a buf → ¬ (a.phase ≡ Stuck)
unfolding is_stuck
never-stuck h e =
    let free = holds-free h in
    let stuck : is_stuck Stuck ≡ false = rw e at free in
    let z : ◌≡◌ {A = ℕ} 0 1 = cc in
    omega arith

module _ {s : Progress} {a : Assembly} {buf : List ℕ} (t : Token) (h : Holds s a buf) where
  pub step-free : {s' : Progress} → step s t ≡ Some s' → is_stuck (moved a t).to.phase ≡ false
  step-free e = holds-free (holds-step t h e)

  pub stuck-told : step s t ≡ None → is_stuck (moved a t).to.phase ≡ true
  unfolding is_stuck
  stuck-told e = ap is_stuck (holds-stuck t h e)

  -- and back
  pub told-stuck : is_stuck (moved a t).to.phase ≡ true → step s t ≡ None
  told-stuck e = go (step s t) refl
    where
      go : (o : Option Progress) → step s t ≡ o → step s t ≡ None
      go None d = d
      go (Some s') d = let f = step-free d in let z : ◌≡◌ {A = ℕ} 0 1 = cc in absurd (omega arith)

  pub free-step : is_stuck (moved a t).to.phase ≡ false → (s' : Progress) × (step s t ≡ Some s')
  free-step e = go (step s t) refl
    where
      go : (o : Option Progress) → step s t ≡ o → (s' : Progress) × (step s t ≡ Some s')
      go None d = let f = stuck-told d in let z : ◌≡◌ {A = ℕ} 0 1 = cc in absurd (omega arith)
      go (Some s') d = (s', d)

-- ---- the end of a text

-- what is finished is the table, and no record is begun behind it
pub record Ended (s : Progress) (w : TableTree) : Type 0 where
  pub ends : ends (phase_of s) ≡ true
  pub all : bytes_of s ≡ front_of s
  pub encoded : front_of s ++ (8 ∷ []) ≡ encode w

abbrev End : Progress → Option TableTree → Type 0
End s None = ends (phase_of s) ≡ false
End s (Some w) = Ended s w

end-of : (s : Progress) → End s (whole s)
unfolding whole front_of bytes_of phase_of ends
end-of (declared ns) = record { ends = refl; all = refl; encoded = table-ends (table_with ns []) }
end-of (named ns k) = refl
end-of (slashed ns) = refl
end-of (sized ns) = refl
end-of (ruled w) = record { ends = refl; all = refl; encoded = table-ends w }
end-of (head_named g hs k) = refl
end-of (head_wants g hs k ts) = refl
end-of (head_slot g hs k t ts) = refl
end-of (head_done g hs h) = refl
end-of (head_next g hs) = refl
end-of (headed w kept removed) = refl
end-of (wants s) = refl
end-of (term s a) = refl
end-of (operated s o a) = refl
end-of (formed s f) = refl
end-of (body g) = refl
end-of (emptied g) = refl
end-of (item_named g is k) = refl
end-of (item_done g is i) = refl
end-of (item_next g is) = refl

module _ {s : Progress} {a : Assembly} {buf : List ℕ} (h : Holds s a buf) where
  phase-same : ends a.phase ≡ ends (phase_of s)
  phase-same = ap (λ (x : Assembly). ends x.phase) h.same

  ended : {w : TableTree} → whole s ≡ Some w → Ended s w
  ended e = subst (End s) e (end-of s)

  pub whole-ends : {w : TableTree} → whole s ≡ Some w → ends a.phase ≡ true
  whole-ends e = phase-same ∙ (ended e).ends

  pub whole-open : whole s ≡ None → ends a.phase ≡ false
  whole-open e = phase-same ∙ subst (End s) e (end-of s)

  -- and back
  pub ends-whole : ends a.phase ≡ true → (w : TableTree) × (whole s ≡ Some w)
  ends-whole e = go (whole s) refl
    where
      go : (o : Option TableTree) → whole s ≡ o → (w : TableTree) × (whole s ≡ Some w)
      go None d = let f = whole-open d in let z : ◌≡◌ {A = ℕ} 0 1 = cc in absurd (omega arith)
      go (Some w) d = (w, d)

  pub open-whole : ends a.phase ≡ false → whole s ≡ None
  open-whole e = go (whole s) refl
    where
      go : (o : Option TableTree) → whole s ≡ o → whole s ≡ None
      go None d = d
      go (Some w) d = let f = whole-ends d in let z : ◌≡◌ {A = ℕ} 0 1 = cc in absurd (omega arith)

  -- the byte 8 ends the table
  pub holds-whole : {w : TableTree} → whole s ≡ Some w → (a.at + 1 ≡ length (encode w)) × Held (set buf a.at 8) (encode w)
  holds-whole {w} e =
      let f = ended e in
      let here : a.at ≡ length (front_of s) = ap (λ (x : Assembly). x.at) h.same in
      let long : length (encode w) ≡ length (front_of s) + 1 = ap length (sym f.encoded) ∙ length-append (front_of s) (8 ∷ []) in
      let held : Held (set buf (length (front_of s)) 8) (put (front_of s) (length (front_of s)) 8) = held-put (length (front_of s)) 8 (rw f.all at h.held) in
      (omega arith, rw here (subst (Held (set buf (length (front_of s)) 8)) (put-end (front_of s) 8 ∙ f.encoded) held))
