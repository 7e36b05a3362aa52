-- A pass over a text, token by token: what is left of the text, read from here, gives what the whole text is; and the assembly holds what is read.
use Prim.Native.Nat.{ℕ, ◌+◌, ◌*◌, ◌<◌, ◌≤◌}
use mathlib.Core.Path.{◌≡◌, refl, sym, ap, ◌∙◌, subst}
use mathlib.Core.Bool.{Bool, true, false}
use mathlib.Core.List.{List, [], ◌∷◌}
use native.Mathlib.Omega.{arith}
use lib.ListN.{length, set, length-append}
use Rattle.std.specs.Prelude.{Option, Some, None, Result, Ok, Err}
use Rattle.model.specs.declared.Reason.TheVariants.{NoToken, NoGrammarRule}
use Rattle.model.specs.declared.Refusal.{Refusal}
use Rattle.model.specs.Refusals.{refused}
use Rattle.grammar.specs.Encode.{encode}
use Rattle.text.specs.Tokens.{Lexed, end, no_token, next, lexed}
use Rattle.tokens.specs.Views.{token_of}
use Rattle.parsing.specs.Progress.{first, second, Progress, declared, named, slashed, sized, ruled, head_named, head_wants, head_slot, head_done, head_next}
use Rattle.parsing.specs.Progress.{headed, wants, term, operated, formed, body, emptied, item_named, item_done, item_next}
use Rattle.parsing.specs.Progress as reading
use Rattle.parsing.specs.Parsed.{Parsed, whole, ended, go_on, wrong_from, parsed_from, parsed}
use Rattle.assembly.specs.declared.Assembly.{Assembly}
use Rattle.assembly.specs.declared.Phase.TheVariants.{Declared}
use Rattle.assembly.specs.Moves.{here, moved, is_stuck, ends}
use Rattle.assembly.specs.Advances.{GroupNear, GroupIn, PhaseNear, Advanced}
use Rattle.assembled.specs.Holds.{behind, table_bytes, head_of, rule_front, heads_front, front_of, phase_of, group_of, Held, Holds}
use Rattle.assembled.proofs.Follows.{holds-begins, holds-step, told-stuck, free-step, holds-whole, ends-whole, open-whole, moved-near}
use Rattle.text_reader.specs.declared.lexing.Placed.{Placed}
use Rattle.text_reader.specs.declared.lexing.Tokens.{Tokens}
use Rattle.text_reader.specs.Lexing.{lexed_in, lexed_next, NextGood, NextIs}
use Rattle.text_reader.specs.Passing.{passed_of, HeldBy, PassedIs, Blank, FinishedBy, Finished}

-- ---- behind a wrong token

wrong-held : (p : ℕ) (l : Lexed) (buf : List ℕ) → HeldBy (wrong_from p l) buf
unfolding wrong_from
wrong-held p end buf = tt
wrong-held p (no_token q) buf = tt
wrong-held p (next q t more) buf = wrong-held p more buf

-- what is left gives the whole
pub record Left (p : ℕ) (o : Parsed) (tokens : Tokens) : Type 0 where
  pub same : o ≡ wrong_from p (lexed_in tokens)

module _ {p : ℕ} where
  pub left-begins : (tokens : Tokens) → Left p (wrong_from p (lexed_in tokens)) tokens
  left-begins tokens = record { same = refl }

  module _ {o : Parsed} {before after : Tokens} (l : Left p o before) {r : Option (Result Placed Refusal)} (n : NextIs before after r) where
    after-next : {r' : Option (Result Placed Refusal)} → r ≡ r' → o ≡ wrong_from p (lexed_next after r')
    after-next e = l.same ∙ ap (wrong_from p) (n.same ∙ ap (lexed_next after) e)

    pub left-done : {f : Refusal} → r ≡ None → f ≡ record { reason = NoGrammarRule; place = p } → (n : ℕ) → Err f ≡ passed_of n o
    unfolding wrong_from
    left-done e is n = rw (is, after-next e)

    pub left-strange : {f : Refusal} → r ≡ Some (Err f) → (n : ℕ) → Err f ≡ passed_of n o
    unfolding wrong_from
    left-strange {f} e m =
        let good : f.reason ≡ NoToken = subst (NextGood before after) e n.good in
        rw (after-next e, ← good)

    pub left-more : {k : Placed} → r ≡ Some (Ok k) → Left p o after
    unfolding wrong_from
    left-more e = record { same = after-next e }

    pub left-less : {k : Placed} → r ≡ Some (Ok k) → length after.rest.now < length before.rest.now
    left-less {k} e = let good : NextGood before after (Some (Ok k)) = subst (NextGood before after) e n.good in good.0

-- ---- where the places of a phase lie

behind-long : {A : Type 0} (bytes : A → List ℕ) (b : List ℕ) (xs : List A) → length b ≤ length (behind bytes b xs)
unfolding behind
behind-long bytes b [] = omega arith
behind-long bytes b (x ∷ xs) = omega (arith, behind-long bytes b xs, length-append (behind bytes b xs) (bytes x))

group-long : (g : reading.Group) (hs : List Rattle.grammar.specs.Tree.HeadTree) (n : ℕ) → length (heads_front g hs) ≤ n → n ≤ 8589934592
    → GroupNear (group_of g)
unfolding behind
group-long (first w) hs n h k =
    omega (arith, behind-long (head_of 3) (rule_front w) hs, length-append (table_bytes w) (2 ∷ []))
group-long (second w k ks) hs n h q = tt

phase-near : (s : Progress) → length (front_of s) ≤ 4294967296 → GroupNear (GroupIn (phase_of s))
unfolding phase_of front_of
phase-near (declared ns) h = tt
phase-near (named ns k) h = tt
phase-near (slashed ns) h = tt
phase-near (sized ns) h = tt
phase-near (ruled w) h = tt
phase-near (head_named g hs k) h = group-long g hs 4294967296 h (omega arith)
phase-near (head_wants g hs k ts) h = group-long g hs 4294967296 h (omega arith)
phase-near (head_slot g hs k t ts) h = group-long g hs 4294967296 h (omega arith)
phase-near (head_done g hs x) h = group-long g (x ∷ hs) 4294967296 h (omega arith)
phase-near (head_next g hs) h = group-long g hs 4294967296 h (omega arith)
phase-near (headed w kept removed) h = tt
phase-near (wants s) h = tt
phase-near (term s a) h = tt
phase-near (operated s o a) h = tt
phase-near (formed s f) h = tt
phase-near (body g) h = tt
phase-near (emptied g) h = tt
phase-near (item_named g is k) h = tt
phase-near (item_done g is i) h = tt
phase-near (item_next g is) h = tt

holds-near : {s : Progress} {a : Assembly} {buf : List ℕ} → Holds s a buf → a.at ≤ 4294967296 → PhaseNear a.at a.phase
holds-near {s} {a} {buf} h n = record {
  near = n;
  group = subst (λ (x : Assembly). GroupNear (GroupIn x.phase)) (sym h.same)
      (phase-near s (omega (arith, ap (λ (x : Assembly). x.at) h.same)));
}

-- ---- a pass

pub record Reads (text : List ℕ) (tokens : Tokens) (a : Assembly) (buf : List ℕ) : Type 0 where
  pub progress : Progress
  pub same : parsed (lexed text) ≡ parsed_from progress (lexed_in tokens)
  pub holds : Holds progress a buf
  pub long : tokens.at + length tokens.rest.now ≡ length text
  pub near : a.at ≤ 46 * tokens.at

pub reads-begin : {text : List ℕ} {tokens : Tokens} {a : Assembly} {buf : List ℕ} → tokens.rest.now ≡ text → tokens.at ≡ 0 → tokens.after ≡ false
    → a ≡ here 0 Declared → Blank buf → Reads text tokens a buf
unfolding parsed lexed
reads-begin {text} {tokens} {a} {buf} all zero fresh e b =
    rw e (record {
      progress = declared [];
      same = rw (all, zero, fresh);
      holds = subst (Holds (declared []) (here 0 Declared)) (sym b.zeros) (holds-begins (length buf));
      long = omega (arith, ap length all, zero);
      near = omega arith;
    })

module _ {text : List ℕ} {tokens : Tokens} {a : Assembly} {buf : List ℕ} (short : length text ≤ 65536) (q : Reads text tokens a buf) where
  pub reads-near : PhaseNear a.at a.phase
  reads-near = holds-near q.holds (omega (arith, q.near, q.long))

  pub reads-at : a.at ≤ 4294967296
  reads-at = omega (arith, q.near, q.long)

  module _ {after : Tokens} {r : Option (Result Placed Refusal)} (n : NextIs tokens after r) where
    on-next : {r' : Option (Result Placed Refusal)} → r ≡ r' → parsed (lexed text) ≡ parsed_from q.progress (lexed_next after r')
    on-next e = q.same ∙ ap (parsed_from q.progress) (n.same ∙ ap (lexed_next after) e)

    pub reads-strange : {f : Refusal} → r ≡ Some (Err f) → PassedIs (length text) (parsed (lexed text)) (Err f) buf
    unfolding parsed_from
    reads-strange {f} e =
        let good : f.reason ≡ NoToken = subst (NextGood tokens after) e n.good in
        rw (on-next e) (record { same = rw (← good); held = tt })

    end-by : {o : Option ℕ} {r' : Result ℕ Refusal} {buf' : List ℕ} (b : Bool) → ends a.phase ≡ b → FinishedBy b a.at buf o buf'
        → ((n : ℕ) → o ≡ Some n → r' ≡ Ok n) → (o ≡ None → r' ≡ refused NoGrammarRule (length text))
        → PassedIs (length text) (ended (whole q.progress)) r' buf'
    unfolding ended
    end-by true e f there none =
        let w = ends-whole q.holds e in
        let h = holds-whole q.holds w.1 in
        rw w.1 (record { same = there (a.at + 1) f.0 ∙ ap Ok h.0; held = subst (λ (b : List ℕ). Held b (encode w.0)) (sym f.1) h.1 })
    end-by false e f there none = rw (open-whole q.holds e) (record { same = none f.0; held = tt })

    pub reads-end : {o : Option ℕ} {r' : Result ℕ Refusal} {buf' : List ℕ} → r ≡ None → Finished a buf o buf'
        → ((n : ℕ) → o ≡ Some n → r' ≡ Ok n) → (o ≡ None → r' ≡ refused NoGrammarRule (length text))
        → PassedIs (length text) (parsed (lexed text)) r' buf'
    unfolding parsed_from
    reads-end e f there none = rw (on-next e) (end-by (ends a.phase) refl f.by there none)

    -- a token
    module _ {k : Placed} (d : r ≡ Some (Ok k)) where
      good : NextGood tokens after (Some (Ok k))
      good = subst (NextGood tokens after) d n.good

      pub reads-less : length after.rest.now < length tokens.rest.now
      reads-less = good.0

      module _ {to : Assembly} {buf' : List ℕ} (m : Advanced (moved a (token_of k.token)) buf to buf') {b : Bool} where
        flag : b ≡ is_stuck to.phase → is_stuck (moved a (token_of k.token)).to.phase ≡ b
        flag g = ap (λ (x : Assembly). is_stuck x.phase) (sym m.to) ∙ sym g

        pub reads-wrong : {f : Refusal} → b ≡ is_stuck to.phase → b ≡ true → ((n : ℕ) → Err f ≡ passed_of n (wrong_from k.place (lexed_in after)))
            → PassedIs (length text) (parsed (lexed text)) (Err f) buf'
        unfolding parsed_from go_on
        reads-wrong g h e =
            rw (on-next d, told-stuck (token_of k.token) q.holds (flag g ∙ h))
            (record { same = e (length text); held = wrong-held k.place (lexed_in after) buf' })

        pub reads-more : b ≡ is_stuck to.phase → b ≡ false → Reads text after to buf'
        unfolding parsed_from go_on
        reads-more g h =
            let y = free-step (token_of k.token) q.holds (flag g ∙ h) in
            let z = holds-step (token_of k.token) q.holds y.1 in
            record {
              progress = y.0;
              same = on-next d ∙ rw y.1;
              holds = subst (λ (x : Assembly). Holds y.0 x buf') (sym m.to) (subst (Holds y.0 (moved a (token_of k.token)).to) (sym m.bytes) z);
              long = omega (arith, good.1.1, q.long);
              near = omega (arith, q.near, good.0, good.1.1, moved-near a (token_of k.token), ap (λ (x : Assembly). x.at) m.to);
            }

-- ---- the end of a text

pub finish-open : {a : Assembly} {s : List ℕ} {b : Bool} → b ≡ ends a.phase → b ≡ false → Finished a s None s
finish-open {a} {s} {b} e h =
    let d : ends a.phase ≡ false = sym e ∙ h in
    record { by = subst (λ (x : Bool). FinishedBy x a.at s None s) (sym d) (refl, refl) }

pub finish-there : {a : Assembly} {s s' : List ℕ} {b : Bool} → b ≡ ends a.phase → b ≡ true → s' ≡ set s a.at 8 → Finished a s (Some (a.at + 1)) s'
finish-there {a} {s} {s'} {b} e h k =
    let d : ends a.phase ≡ true = sym e ∙ h in
    record { by = subst (λ (x : Bool). FinishedBy x a.at s (Some (a.at + 1)) s') (sym d) (refl, k) }
