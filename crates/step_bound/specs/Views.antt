-- How many heads have a symbol.
use Rattle.std.specs.Prelude.{ℕ, ◌+◌, cond, List, [], ◌∷◌}
use Rattle.model.specs.declared.Symbol.{Symbol}
use Rattle.model.specs.Table.{Head, Rule, heads, same_symbol}

-- how many heads have the symbol s: among hs, and over all rules
unfoldable pub heads_with : Symbol → List Head → ℕ
heads_with s [] = 0
heads_with s (h ∷ hs) = cond (same_symbol h.symbol s) 1 0 + heads_with s hs

unfoldable pub all_heads_with : Symbol → List Rule → ℕ
all_heads_with s [] = 0
all_heads_with s (r ∷ rs) = heads_with s (heads r) + all_heads_with s rs
