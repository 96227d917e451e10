use Rattle.std.proofs.Common.{◌∙◌, Some, ap, sym}
use Rattle.relay_keeping.specs.Clients.{patch_of}
use Rattle.relay_keeping.specs.Mirrored.{heard}
use Rattle.relay_keeping.proofs.Hearing.{client_of_edited, revision_of_edited}
use Rattle.relay_keeping.proofs.client.Client.edit.Goals as goal

pub returns : goal.returns
returns c = λ kept was.
    let patch = patch_of c.args.revision c.args.text.now in
    let leads = sym (revision_of_edited kept patch) in
    record {
      heard = c.in_ok-hear.ensures.heard ∙ ap (λ client. heard client c.args.text.now) was.heard
          ∙ sym (client_of_edited kept patch);
      at = c.in_ok-hear.ensures.at ∙ ap Some leads;
      noted = c.with_patch-self.ensures ∙ leads;
    }
