-- The call that looks for weights, test by test: what each finds decides the definition's case. The search begins with a part of an array of ones, which
-- is 1 for each symbol since there are at most 32; what it finds is copied over the whole buffer, since both have one byte a symbol.
use Prim.Native.Nat.{ℕ, zero, suc, ◌≤◌}
use mathlib.Core.Path.{◌≡◌, refl, sym, ap, ◌∙◌}
use mathlib.Core.List.{List, ◌∷◌}
use native.Mathlib.Omega.{arith}
use lib.Dec.{eqb}
use lib.ListN.{length, take, replicate, length-replicate}
use Rattle.std.specs.Prelude.{Option, Some, None, Ok, Err}
use Rattle.model.specs.declared.RuleNumber.{RuleNumber}
use Rattle.model.specs.declared.Reading.{Reading}
use Rattle.model.specs.declared.Refusal.{Refusal}
use Rattle.model.specs.Refusals.{Verdict}
use Rattle.model.specs.declared.CallResult.{CallResult}
use Rattle.model.specs.declared.Reason.TheVariants.{WeightCount, HeavyRule}
use Rattle.model.specs.Reading.{read_of}
use Rattle.model.specs.Table.{table_of}
use Rattle.model.specs.Results.{refusal, refused_result}
use Rattle.model.specs.Calls.{verdict_result}
use Rattle.table.proofs.Verdicts.{verdict-read}
use Rattle.rule_weights.specs.Views.{Known}
use Rattle.rule_weights.proofs.Turns.{known-good, symbols-same, count-same, count-differs}
use Rattle.raises.specs.Search.{sought_as, most_raises, search_from, search_of}
use Rattle.finding_weights.specs.Find.{Finding, Gives, find_ended, find_count, find_table, find_of}

take-ones : (n m : ℕ) → n ≤ m → take {A = ℕ} n (replicate m 1) ≡ replicate n 1
take-ones zero m h = refl
take-ones (suc n) zero h = absurd (omega arith)
take-ones (suc n) (suc m) h = ap {B = List ℕ} (λ l. 1 ∷ l) (take-ones n m (omega arith))

-- what each test finds, as the definition's case
module _ (t buffer : List ℕ) {r : Reading} (e : r ≡ read_of t) where
  pub table-refused : {a : Refusal} → r.verdict ≡ Err a → Gives (find_of t buffer) (verdict_result (Err a)) buffer
  unfolding find_of find_table verdict_result
  table-refused d = rw (verdict-read t e d) (record { result = refl; bytes = refl })

  -- the table is good
  module _ (good : r.verdict ≡ Ok tt) where
    known : Known t r
    known = record { same = e; good = good }

    few-symbols : r.symbols ≤ 32
    few-symbols = omega (arith, (known-good known).few_symbols, ap (λ (r : Reading). r.symbols) e)

    counted : find_of t buffer ≡ find_count t buffer (eqb (length buffer) (read_of t).symbols)
    unfolding find_of find_table
    counted = ap (find_table t buffer) (verdict-read t e good)

    module _ {n : ℕ} (q : n ≡ r.symbols) where
      -- the search begins with a part of 32 ones
      pub within : n ≤ 32
      within = omega (arith, few-symbols)

      ones : take {A = ℕ} n (replicate 32 1) ≡ replicate n 1
      ones = take-ones n 32 within

      pub ones-long : length (take {A = ℕ} n (replicate 32 1)) ≡ n
      ones-long = ap length ones ∙ length-replicate {A = ℕ} n 1

      pub other-count : (length buffer ≡ n → ⊥) → Gives (find_of t buffer) (verdict_result (Err (record { reason = WeightCount; place = 0 }))) buffer
      unfolding find_count verdict_result
      other-count d = rw (counted, count-differs known buffer (λ z. d (z ∙ sym q))) (record { result = refl; bytes = refl })

      -- the search's end
      module _ (same : length buffer ≡ n) (f : Option RuleNumber) (ws : List ℕ)
          (s : sought_as ws f ≡ search_from most_raises (table_of t).rules (take n (replicate 32 1))) where
        ended : find_of t buffer ≡ find_ended buffer (sought_as ws f)
        unfolding find_count search_of
        ended =
            counted
            ∙ ap (find_count t buffer) (count-same known buffer (same ∙ q))
            ∙ ap (λ (k : ℕ). find_ended buffer (search_from most_raises (table_of t).rules (replicate k 1))) (sym (q ∙ symbols-same known))
            ∙ ap (find_ended buffer) (sym (s ∙ ap (search_from most_raises (table_of t).rules) ones))

        pub ended-found : f ≡ None → {out : List ℕ} → out ≡ ws → Gives (find_of t buffer) (verdict_result (Ok tt)) out
        unfolding find_ended sought_as verdict_result
        ended-found d c = rw (ended ∙ ap (λ (f : Option RuleNumber). find_ended buffer (sought_as ws f)) d) (record { result = refl; bytes = c })

        pub ended-stopped : {i : RuleNumber} {p : ℕ} → f ≡ Some i → p ≡ i.0
            → Gives (find_of t buffer) (verdict_result (Err (record { reason = HeavyRule; place = p }))) buffer
        unfolding find_ended sought_as verdict_result
        ended-stopped d z =
            rw (ended ∙ ap (λ (f : Option RuleNumber). find_ended buffer (sought_as ws f)) d)
            (record { result = ap (λ (p : ℕ). refused_result (record { reason = HeavyRule; place = p })) z; bytes = refl })

-- the result told
module _ {o : Finding} {v : Verdict} {ws : List ℕ} (g : Gives o (verdict_result v) ws) {x : CallResult} where
  pub told-found : v ≡ Ok tt → x ≡ refusal 0 0 → Gives o x ws
  unfolding verdict_result
  told-found d e = record { result = e ∙ ap verdict_result (sym d) ∙ g.result; bytes = g.bytes }

  pub told-refused : {a : Refusal} → v ≡ Err a → x ≡ refused_result a → Gives o x ws
  unfolding verdict_result
  told-refused d e = record { result = e ∙ ap verdict_result (sym d) ∙ g.result; bytes = g.bytes }
