-- `token_at` meets its contract: what the first byte is not, where no word and no negative constant stands there.
use Rattle.std.proofs.Common.{rules}
use Rattle.tokens.proofs.Finds.{word_found, minus_found, no_byte, operation_found, sign_found, within}
use Rattle.tokens.proofs.token_at.Goals.{in_default-via-then-rest-lt1, in_default-via-in-45+else-not-after}
use Rattle.tokens.proofs.token_at.Goals.{in_default-via-in-len1-up+else-is_word_byte+in_default}
use Rattle.tokens.proofs.token_at.Goals as goal

pub returns-in-len1-up-clause-within : goal.returns-in-len1-up-clause-within
returns-in-len1-up-clause-within c = within c.args.after c.args.rest.now c.word.result (search (word_found, rules))

pub returns-in-45-clause-within : goal.returns-in-45-clause-within
returns-in-45-clause-within c = within c.args.after c.args.rest.now c.negated.result (search (minus_found, rules))

pub returns-in_default-clause-same : goal.returns-in_default-clause-same
returns-in_default-clause-same c = elim c.in_default.branch [
  | in_default-via-then-rest-lt1 w ↦ search (no_byte, rules)
  | in_default-via-in-45+else-not-after w ↦ search (operation_found, rules)
  | in_default-via-in-len1-up+else-is_word_byte+in_default w ↦ search (sign_found, rules)
]

pub returns-in_default-clause-within : goal.returns-in_default-clause-within
returns-in_default-clause-within c = within c.args.after c.args.rest.now c.sign_of.result (returns-in_default-clause-same c)
