use Rattle.std.proofs.Common.{◌∙◌, ◌++◌, ap, subst, sym}
use Rattle.std.specs.Str.Iter.{lines_rest}
use Rattle.std.specs.Str.Lines.{IsFirstLine}
use Rattle.relay_server.specs.Exports.{IsFirstOf}
use Rattle.relay_server.proofs.export.Export.read.Goals as goal

pub returns-clause-read : goal.returns-clause-read
returns-clause-read c =
    let added = c.in_ok-add_rooms.ensures.ok in
    record {
      first = c.in-Some.first.now;
      rest = lines_rest c.next.new.self;
      line = c.in_ok-read_line.field-0;
      floor = c.in_ok-epoch.floor;
      rooms = added.0;
      begins = subst (λ text. IsFirstLine text c.in-Some.first.now (lines_rest c.next.new.self))
          c.lines-lines.ensures.rest c.in-Some.ensures.steps.0.2;
      reads = c.in_ok-read_line.ensures.ok;
      has = subst (λ epoch. IsFirstOf c.in_ok-read_line.field-0 epoch c.in_ok-epoch.floor)
          (sym c.in_ok-add_rooms.ensures.epoch) c.in_ok-epoch.ensures.ok;
      follow = added.1;
      changes = added.2 ∙ ap (λ changes. changes ++ added.0) c.in_ok-floor_changes.ensures;
    }
