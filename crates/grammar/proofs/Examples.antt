-- Tables of document 01's worked runs as trees: each is encoded to the bytes that the worked cases are written down with (Build), table A has 72 bytes,
-- and it is well formed. By computing.
use mathlib.Core.Path.{◌≡◌, refl}
use mathlib.Core.List.Memᴰ
use mathlib.Core.List.{[], ◌∷◌}
use native.Mathlib.Omega.{arith}
use lib.IntN.{pos}
use lib.ListN.{length}
use Rattle.wire.specs.Wire.{bytes4, bits_of}
use Rattle.model.proofs.Build.{◌then◌, var, num, only, op, symbol, rule, kept, removed, test, adds, failing, finish}
use Rattle.grammar.specs.Tree.{Term, constant, variable, sum, quotient, alone, applied, less, at_most, greater, fact, fail, TableTree}
use Rattle.grammar.specs.Encode.{each_bytes, places_bytes, term_bytes, formula_bytes, symbol_bytes, head_bytes, guard_bytes, item_bytes, rule_bytes, encode}
use Rattle.grammar.specs.WellFormed.{WellFormed}

abbrev X : Term
X = variable 0

abbrev Y : Term
Y = variable 1

abbrev Z : Term
Z = variable 2

-- "Table A: mu(S,V), one rule, mu(S,A) kept, mu(S,B) removed, A at most B, empty body; 72 bytes."
abbrev pub tree_a : TableTree
tree_a = record {
  arities = 2 ∷ [];
  rules = record {
    kept = record { symbol = 0; terms = X ∷ Y ∷ [] } ∷ [];
    removed = record { symbol = 0; terms = X ∷ Z ∷ [] } ∷ [];
    guards = record { comparator = at_most; left = alone Y; right = alone Z } ∷ [];
    items = [];
  } ∷ [];
}

pub A-bytes : encode tree_a
    ≡ symbol 2 then rule then kept 0 (var 0 ∷ var 1 ∷ []) then removed 0 (var 0 ∷ var 2 ∷ []) then test 3 (only (var 1)) (only (var 2)) then finish
unfolding each_bytes places_bytes term_bytes formula_bytes symbol_bytes head_bytes guard_bytes item_bytes rule_bytes encode bytes4 bits_of
A-bytes = refl

pub A-long : length (encode tree_a) ≡ 72
unfolding each_bytes places_bytes term_bytes formula_bytes symbol_bytes head_bytes guard_bytes item_bytes rule_bytes encode bytes4 bits_of
A-long = refl

pub A-formed : WellFormed tree_a
A-formed = record {
  few_symbols = omega arith;
  arities = (omega arith, tt);
  few_rules = omega arith;
  rules = (
    record {
      some_head = omega arith;
      few_heads = omega arith;
      few_guards = omega arith;
      few_items = omega arith;
      kept = (record { symbol = record { declared = omega arith; uses = refl }; terms = (omega arith, (omega arith, tt)) }, tt);
      removed = (record { symbol = record { declared = omega arith; uses = refl }; terms = (omega arith, (omega arith, tt)) }, tt);
      guards = (
        record {
          left = omega arith;
          right = omega arith;
          left_known = Memᴰ.tail (Memᴰ.head refl);
          right_known = Memᴰ.tail (Memᴰ.tail (Memᴰ.tail (Memᴰ.head refl)));
        },
        tt,
      );
      items = tt;
    },
    tt,
  );
}

-- "k(A,B) <=> A/B > 3, empty body"
divides : TableTree
divides = record {
  arities = 2 ∷ [];
  rules = record {
    kept = [];
    removed = record { symbol = 0; terms = X ∷ Y ∷ [] } ∷ [];
    guards = record { comparator = greater; left = applied quotient X Y; right = alone (constant (pos 3)) } ∷ [];
    items = [];
  } ∷ [];
}

divides-bytes : encode divides ≡ symbol 2 then rule then removed 0 (var 0 ∷ var 1 ∷ []) then test 4 (op 4 (var 0) (var 1)) (only (num (pos 3))) then finish
unfolding divides each_bytes places_bytes term_bytes formula_bytes symbol_bytes head_bytes guard_bytes item_bytes rule_bytes encode bytes4 bits_of
divides-bytes = refl

-- "n(X) <=> n(X+1)", and behind it "n(X) <=> X < 0, body fail"
counts : TableTree
counts = record {
  arities = 1 ∷ [];
  rules =
      record {
        kept = [];
        removed = record { symbol = 0; terms = X ∷ [] } ∷ [];
        guards = [];
        items = fact 0 (applied sum X (constant (pos 1)) ∷ []) ∷ [];
      }
      ∷ record {
        kept = [];
        removed = record { symbol = 0; terms = X ∷ [] } ∷ [];
        guards = record { comparator = less; left = alone X; right = alone (constant (pos 0)) } ∷ [];
        items = fail ∷ [];
      }
      ∷ [];
}

counts-bytes : encode counts
    ≡ symbol 1 then rule then removed 0 (var 0 ∷ []) then adds 0 (op 1 (var 0) (num (pos 1)) ∷ []) then rule then removed 0 (var 0 ∷ [])
    then test 2 (only (var 0)) (only (num (pos 0))) then failing then finish
unfolding counts each_bytes places_bytes term_bytes formula_bytes symbol_bytes head_bytes guard_bytes item_bytes rule_bytes encode bytes4 bits_of
counts-bytes = refl
