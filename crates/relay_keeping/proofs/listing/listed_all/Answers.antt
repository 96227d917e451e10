use Rattle.std.proofs.Common.{◌≡◌, ◌∙◌, ◌∷◌, ◌++◌, [], ap, map, rules, sym}
use Rattle.relay_keeping.specs.Listing.{shown}
use Rattle.relay_keeping.proofs.Listed.{listed_more}
use Rattle.relay_keeping.proofs.listing.listed_all.Goals as goal

pub loop-index-preserved : goal.loop-index-preserved
loop-index-preserved c =
    let pushed : c.push.new.self.items ≡ c.loop-index.rooms.items ++ c.in_ok-listed.field-0 ∷ [] =
    search rules in
    let clients = c.args.clients.now.entries in
    ap (map shown) pushed
    ∙ listed_more clients c.loop-index.index (c.in-Some.name.now, c.in-Some.client.now)
    c.loop-index.rooms.items c.in_ok-listed.field-0 (sym c.in-Some.ensures.entry)
    c.loop-index.invariant
    (c.in_ok-listed.ensures ∙ ap (λ n. (n, c.in-Some.client.now.follower)) c.as_str.ensures.value)
