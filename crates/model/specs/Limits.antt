-- The limits of document 01, each named once.
use Rattle.std.specs.Prelude.{ℕ}

-- "Limits: 32 symbols, 64 rules, and per rule 1..4 heads, 0..4 guards, 0..4 body items."
abbrev pub most_symbols : ℕ
most_symbols = 32

abbrev pub most_rules : ℕ
most_rules = 64

abbrev pub most_heads : ℕ
most_heads = 4

abbrev pub most_guards : ℕ
most_guards = 4

abbrev pub most_items : ℕ
most_items = 4

-- "Goal 0..64 facts."
abbrev pub most_goal_facts : ℕ
most_goal_facts = 64

-- "Store 128, stack 256, history 256."
abbrev pub store_room : ℕ
store_room = 128

abbrev pub stack_room : ℕ
stack_room = 256

abbrev pub history_room : ℕ
history_room = 256

-- "Step limit 0..20,000,000. Answer buffer at least 2,816 bytes."
abbrev pub greatest_limit : ℕ
greatest_limit = 20000000

abbrev pub least_answer : ℕ
least_answer = 2816
