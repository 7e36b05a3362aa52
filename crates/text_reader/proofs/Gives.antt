-- From the assembled bytes to what the call gives: what is in the room is the table, or its front, which the check answers for.
use Prim.Native.Nat.{ℕ, ◌<◌, ◌≤◌, min}
use mathlib.Core.Path.{◌≡◌, refl, sym, ap, ◌∙◌}
use mathlib.Core.Logic.{◌⊎◌, inl, inr, ⊎_elim}
use mathlib.Core.Bool.{Bool, true, false}
use mathlib.Core.List.{List, ◌++◌}
use native.Mathlib.Omega.{arith}
use borrow.Author.Tests.{lt-ltb, le-ltb, eq-eqb, ne_eqb, leb-true, leb-false}
use lib.Dec.{leb}
use lib.ListN.{length, drop, take, get_or, length-take}
use lib.Seq.{ext_get_or, get_or-take, take-length}
use Rattle.std.specs.Prelude.{Result, Ok, Err, ⊤}
use Rattle.model.specs.declared.CallResult.{CallResult}
use Rattle.model.specs.declared.Reason.TheVariants.{LongText, NoRoom}
use Rattle.model.specs.declared.Refusal.{Refusal}
use Rattle.model.specs.Refusals.{Verdict, number_of}
use Rattle.model.specs.Results.{refusal, refused_result}
use Rattle.model.specs.Reading.{read_of}
use Rattle.model.specs.Calls.{check_of, verdict_result}
use Rattle.model.proofs.Good.{refusal-small}
use Rattle.grammar.specs.Encode.{encode}
use Rattle.text.specs.Tokens.{lexed}
use Rattle.parsing.specs.Parsed.{Parsed, tree, strange, wrong, unfinished, parsed}
use Rattle.table_front.proofs.Front.{front-check, good-short, check-good}
use Rattle.assembled.specs.Holds.{Held}
use Rattle.text_reader.specs.ReadText.{read_checked, read_room, read_parsed, read_text_of}
use Rattle.text_reader.specs.Passing.{passed_of, HeldBy, PassedIs, TextIs, RoomGiven}

-- the smaller of two
record Least (n m e : ℕ) : Type 0 where
  pub first : e ≤ n
  pub second : e ≤ m
  pub one : (e ≡ n) ⊎ ((e ≡ m) × (m ≤ n))

least : (n m e : ℕ) → e ≡ min n m → Least n m e
least n m e h = go (leb n m) refl
  where
    go : (t : Bool) → leb n m ≡ t → Least n m e
    go true p = let l = leb-true n m p in record { first = omega (arith, h); second = omega (arith, h); one = inl (omega (arith, h, l)) }
    go false p = let l = leb-false n m p in record { first = omega (arith, h); second = omega (arith, h); one = inr (omega (arith, h, l), omega (arith, l)) }

-- ---- what is in the room

module _ {a t : List ℕ} (held : Held a t) where
  -- a front of both
  same-front : (n : ℕ) → n ≤ length a → n ≤ length t → take n a ≡ take n t
  same-front n h k = ext_get_or 0 (take n a) (take n t) long each
    where
      long : length (take n a) ≡ length (take n t)
      long = omega (arith, length-take n a, length-take n t)

      each : (i : ℕ) → i < length (take n a) → get_or (take n a) i 0 ≡ get_or (take n t) i 0
      each i g =
          let b : i < n = omega (arith, length-take n a) in
          get_or-take n a i 0 b ∙ held.each i (omega arith) ∙ sym (get_or-take n t i 0 b)

module _ {a t : List ℕ} {n e : ℕ} (held : Held a t) (long : n ≡ length t) (room : length a ≡ 23727) (l : Least n 23727 e) where
  -- all of the table, or the front that the check looks at
  in-front : take e a ≡ take e t
  in-front = same-front held e (omega (arith, l.second)) (omega (arith, l.first))

  room-check : check_of (take e a) ≡ check_of t
  room-check =
      ap check_of in-front
      ∙ ⊎_elim
      (λ (q : e ≡ n). ap check_of (ap (λ (k : ℕ). take k t) (q ∙ long) ∙ take-length t))
      (λ (q : (e ≡ 23727) × (23727 ≤ n)). ap (λ (k : ℕ). check_of (take k t)) q.0 ∙ front-check t (omega (arith, q.1)))
      l.one

  -- a good table is in the room whole
  good-whole : (check_of t).number ≡ 0 → e ≡ length t
  good-whole z =
      ⊎_elim (λ (q : e ≡ n). q ∙ long) (λ (q : (e ≡ 23727) × (23727 ≤ n)). absurd (omega (arith, good-short t (check-good t z), q.1)))
      l.one

  good-bytes : (check_of t).number ≡ 0 → take e a ≡ t
  good-bytes z = in-front ∙ ap (λ (k : ℕ). take k t) (good-whole z) ∙ take-length t

-- ---- what the call gives

module _ (a : List ℕ) (n : ℕ) (s : List ℕ) (room : length a ≡ 23727) where
  pub gives-short : {f : Refusal} → length s < n → f ≡ record { reason = NoRoom; place = 0 } → RoomGiven a n s (Err f) s
  unfolding read_room
  gives-short h e = record {
    gives = λ text t long held.
        rw (lt-ltb (length s) (length t) (omega arith), e) (record { given = record { result = refl; length = refl; bytes = refl } });
  }

  module _ {e : ℕ} (fits : n ≤ length s) (is : e ≡ min n 23727) where
    told : {v : Verdict} (t : List ℕ) → n ≡ length t → Held a t → (read_of (take e a)).verdict ≡ v → check_of t ≡ verdict_result v
    unfolding check_of
    told t long held k = sym (room-check held long room (least n 23727 e is)) ∙ ap verdict_result k

    pub gives-bad : {f : Refusal} → (read_of (take e a)).verdict ≡ Err f → RoomGiven a n s (Err f) s
    unfolding read_room read_checked verdict_result
    gives-bad {f} k = record {
      gives = λ text t long held.
          let q : check_of t ≡ refused_result f = told t long held k in
          let bad : (check_of t).number ≡ 0 → ⊥ = λ z. let m : number_of f.reason ≡ 0 = ap (λ (x : CallResult). x.number) (sym q) ∙ z in
          absurd (omega (arith, m, (refusal-small (take e a) f k).low)) in
          rw (le-ltb (length s) (length t) (omega arith), ne_eqb (check_of t).number 0 bad)
          (record { given = record { result = sym q; length = refl; bytes = refl } });
    }

    pub gives-good : {u : ⊤} {s' : List ℕ} → (read_of (take e a)).verdict ≡ Ok u → s' ≡ take e a ++ drop (length (take e a)) s
        → RoomGiven a n s (Ok (length (take e a))) s'
    unfolding read_room read_checked verdict_result
    gives-good {u} {s'} k d = record {
      gives = λ text t long held.
          let q : check_of t ≡ refusal 0 0 = told t long held k in
          let z : (check_of t).number ≡ 0 = ap (λ (x : CallResult). x.number) q in
          let l = least n 23727 e is in
          let bytes : take e a ≡ t = good-bytes held long room l z in
          rw (le-ltb (length s) (length t) (omega arith), eq-eqb (check_of t).number 0 z)
          (record {
            given = record {
              result = refl;
              length = ap length bytes;
              bytes = d ∙ ap (λ (x : List ℕ). x ++ drop (length x) s) bytes;
            };
          });
    }

-- ---- the whole call

apart : ◌≡◌ {A = ℕ} 0 1 → ⊥
apart e = omega arith

module _ (text s : List ℕ) where
  pub text-long : {f : Refusal} → 65536 < length text → f ≡ record { reason = LongText; place = 0 } → TextIs (read_text_of text s) (Err f) s
  unfolding read_text_of
  text-long h e = rw (lt-ltb 65536 (length text) h, e) (record { given = record { result = refl; length = refl; bytes = refl } })

  module _ (short : length text ≤ 65536) {a : List ℕ} where
    pub text-refused : {f : Refusal} → PassedIs (length text) (parsed (lexed text)) (Err f) a → TextIs (read_text_of text s) (Err f) s
    unfolding read_text_of read_parsed
    text-refused {f} p = rw (le-ltb 65536 (length text) short) (go (parsed (lexed text)) p.same)
      where
        go : (o : Parsed) → ◌≡◌ {A = Result ℕ Refusal} (Err f) (passed_of (length text) o) → TextIs (read_parsed text s o) (Err f) s
        go (tree w) e = absurd (apart cc)
        go (strange q) e = rw e (record { given = record { result = refl; length = refl; bytes = refl } })
        go (wrong q) e = rw e (record { given = record { result = refl; length = refl; bytes = refl } })
        go unfinished e = rw e (record { given = record { result = refl; length = refl; bytes = refl } })

    pub text-whole : {n : ℕ} {r : Result ℕ Refusal} {s' : List ℕ} → PassedIs (length text) (parsed (lexed text)) (Ok n) a → RoomGiven a n s r s'
        → TextIs (read_text_of text s) r s'
    unfolding read_text_of read_parsed
    text-whole {n} {r} {s'} p g = rw (le-ltb 65536 (length text) short) (go (parsed (lexed text)) p.same p.held)
      where
        go : (o : Parsed) → ◌≡◌ {A = Result ℕ Refusal} (Ok n) (passed_of (length text) o) → HeldBy o a → TextIs (read_parsed text s o) r s'
        go (tree w) e h = let long : n ≡ length (encode w) = cc in g.gives text (encode w) long h
        go (strange q) e h = absurd (apart cc)
        go (wrong q) e h = absurd (apart cc)
        go unfinished e h = absurd (apart cc)
