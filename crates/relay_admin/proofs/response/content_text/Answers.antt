-- Each part is that of the response.
use Rattle.relay_admin.proofs.response.content_text.Goals as goal

pub returns : goal.returns
returns c =
    rw (
      c.status.ensures,
      c.kind.ensures,
      c.as_str.ensures.value,
      c.in_ok-lines.ensures,
      c.body.ensures,
    ) at c.content_by.ensures
