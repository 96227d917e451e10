use Rattle.std.proofs.Common.{◌≡◌, ◌∙◌, ◌<◌, ◌++◌, ◌∷◌, [], ap, arith, get_or, length, map, subst}
use Rattle.std.proofs.Common.{sym, take}
use Rattle.std.proofs.lemmas.List.{map_more}
use Rattle.relay_hub.specs.Stands.{named_will}
use Rattle.relay_keeping.specs.Wills.{Finds}
use Rattle.relay_keeping.proofs.FindingWills.{finds_then}
use Rattle.relay_keeping.proofs.found_wills.FoundWills.find_waiting.Goals as goal

pub loop-will-preserved : goal.loop-will-preserved
loop-will-preserved c =
    let noted = c.args.noted.now.entries in
    let rooms = c.args.hub.now.rooms in
    let wills = c.args.hub.now.wills in
    let i = c.loop-will.will-index in
    let will = c.will-item.result in
    let items = c.waiting_wills-will-items.ensures in
    let within : i < length wills = omega (arith, c.loop-will-test.true, ap length items) in
    let is : will ≡ get_or wills i will = c.will-item.is ∙ ap (λ xs. get_or xs i will) items in
    let one : Finds noted (named_will rooms will ∷ []) c.loop-will.self c.find.new.self =
    subst (λ name. Finds noted (record {
      session = will.session;
      number = will.number;
      room = name;
      patch = will.patch;
    } ∷ []) c.loop-will.self c.find.new.self) c.name_of.ensures c.in_ok-find.ensures in
    subst (λ wills. Finds noted wills c.args.self.now c.find.new.self)
    (sym (map_more (named_will rooms) wills i will within
    ∙ ap (λ w. map (named_will rooms) (take i wills) ++ named_will rooms w ∷ []) (sym is)))
    (finds_then noted (map (named_will rooms) (take i wills)) (named_will rooms will ∷ [])
    c.args.self.now c.loop-will.self c.find.new.self c.loop-will.invariant one)
