-- What every call gives back, in words of 32 bits. A result is built here alone.
use Rattle.std.specs.Prelude.{ℕ}
use Rattle.model.specs.declared.CallResult.{CallResult}
use Rattle.model.specs.declared.Refusal.{Refusal}
use Rattle.model.specs.Refusals.{number_of}

-- what a run counts
pub record Counts : Type 0 where
  pub steps : ℕ
  pub firings : ℕ

abbrev pub counts_of : ℕ → ℕ → Counts
counts_of steps firings = record { steps = steps; firings = firings }

abbrev pub no_counts : Counts
no_counts = counts_of 0 0

-- "A result has: number, place, steps, firings, identifiers given, facts stored."
abbrev pub result_of : ℕ → ℕ → Counts → ℕ → ℕ → CallResult
result_of n p c identifiers stored =
    record { number = n; place = p; steps = c.steps; firings = c.firings; identifiers = identifiers; stored = stored }

abbrev pub result_words : ℕ
result_words = 6

-- "Numbers 16 and above have all four counts 0."
abbrev pub refusal : ℕ → ℕ → CallResult
refusal n p = result_of n p no_counts 0 0

abbrev pub refused_result : Refusal → CallResult
refused_result r = refusal (number_of r.reason) r.place
