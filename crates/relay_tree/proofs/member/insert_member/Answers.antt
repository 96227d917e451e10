use Rattle.std.proofs.Common.{◌≡◌, string_bytes, ap, ap₂, ◌∙◌}
use Rattle.relay_tree.specs.Part.{put_member}
use Rattle.relay_tree.specs.Seen.{members_of}
use Rattle.relay_tree.proofs.Named.{inserted_member}
use Rattle.relay_tree.proofs.member.insert_member.Goals as goal

pub returns-clause-ok : goal.returns-clause-ok
returns-clause-ok c =
    let entries = rw c.unwrap.ensures at c.insert.ensures.entries in
    let named : string_bytes c.in-Ok.name ≡ c.args.name.now = c.in-Ok.ensures.ok in
    ap members_of entries
    ∙ inserted_member c.reserve.new.self.entries c.in-Ok.name c.args.value
    c.insert.ensures.ascending
    ∙ ap₂ (λ es k. put_member (members_of es) k c.args.value) c.reserve.ensures.entries named
