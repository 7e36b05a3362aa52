-- `store::stored_fact` meets its contract: the closure is the definition's test.
use Rattle.std.proofs.Common.{rules, ◌≡◌, Bor}
use Rattle.std.specs.Option.{option_map}
use Rattle.std.proofs.lemmas.Iterator.{YieldsList-from_slice}
use Rattle.std.proofs.lemmas.Iterator.Search.{find_from_yields_List}
use Rattle.model.specs.declared.Stored.{Stored}
use Rattle.model.specs.Search.{same_id}
use Rattle.store.proofs.Looked.{found-as}
use Rattle.store.proofs.stored_fact.Goals as goal

pub returns : goal.returns
returns c =
    let e = found-as c.args.id c.args.store.now c.find.result
    (find_from_yields_List (λ (s : Stored). same_id s.id c.args.id) _ _ c.find.result c.find.ensures.ran
    (YieldsList-from_slice c.args.store.now (search rules)) (λ x b q k. search rules)) in
    let m : c.map.result ≡ option_map (λ (s : Bor Stored). s.now.fact) c.find.result = search rules in
    rw m e
