-- Writing a text into a buffer: what its functions promise. A byte for which there is no room is not written, and the place goes on all the same, so that
-- the same functions measure a text and write it.
use Rattle.std.specs.Prelude.{ℕ, ◌+◌, ◌≤◌, ◌≡◌, List, length}
use Rattle.std.proofs.lemmas.List.Edits.{sets}
pub use Rattle.text.specs.Token.{longest_text}
use Rattle.text_writing.specs.declared.Page.{Page}

-- s with the bytes from `at` on, as far as it goes
unfoldable pub written : ℕ → List ℕ → List ℕ → List ℕ
written at bytes s = sets s at bytes

-- the bytes, of which there are at most `most`, were written to the page p from its place on, which made it q, of the same buffer
pub record Put (p : Page) (bytes : List ℕ) (most : ℕ) (q : Page) : Type 0 where
  pub place : q.at ≡ p.at + length bytes
  pub same : q.text.now ≡ written p.at bytes p.text.now
  pub few : length bytes ≤ most
  pub buffer : q.text.ghost_name ≡ p.text.ghost_name
