use Rattle.std.proofs.Common.{◌∙◌, ◌∷◌, ◌≡◌, [], ap, codes, refl}
use Rattle.clap.specs.Words.{Rule, Text, rule_of}
use Rattle.relay_options.proofs.CommandsMade.{option_added}
use Rattle.relay_options.specs.CommandLine.{history_weight_option, telling_weight_option}
use Rattle.relay_options.specs.CommandLine.{view_weight_option, waiting_weight_option}
use Rattle.relay_options.proofs.server_options.with_server_options.Goals as goal

pub returns : goal.returns
returns c =
    let bounded = λ (bound : Text) (option : Rule). record option { defaults = bound ∷ [] } in
    let history : rule_of c.default_value.result ≡ history_weight_option (codes "262144" ∷ []) =
    ap rule_of c.default_value.ensures ∙ ap (bounded (codes "262144")) c.history_weight.ensures in
    let waiting : rule_of c.default_value-2.result ≡ waiting_weight_option (codes "65536" ∷ []) =
    ap rule_of c.default_value-2.ensures ∙ ap (bounded (codes "65536")) c.waiting_weight.ensures in
    let telling : rule_of c.default_value-3.result ≡ telling_weight_option (codes "1048576" ∷ [])
    = ap rule_of c.default_value-3.ensures
    ∙ ap (bounded (codes "1048576")) c.telling_weight.ensures in
    let view : rule_of c.default_value-4.result ≡ view_weight_option (codes "16384" ∷ [])
    = ap rule_of c.default_value-4.ensures
    ∙ ap (bounded (codes "16384")) c.view_weight.ensures in
    let settings = c.in_ok-with_settings.ensures in
    let one = option_added _ _ _ _ _ settings c.server_epoch.ensures refl c.in_ok-arg.ensures in
    let two = option_added _ _ _ _ _ one history refl c.in_ok-arg-2.ensures in
    let three = option_added _ _ _ _ _ two waiting refl c.in_ok-arg-3.ensures in
    let four = option_added _ _ _ _ _ three telling refl c.in_ok-arg-4.ensures in
    let five = option_added _ _ _ _ _ four view refl c.in_ok-arg-5.ensures in
    let six = option_added _ _ _ _ _ five c.listen.ensures refl c.in_ok-arg-6.ensures in
    let seven = option_added _ _ _ _ _ six c.port.ensures refl c.in_ok-arg-7.ensures in
    let eight = option_added _ _ _ _ _ seven c.admin.ensures refl c.in_ok-arg-8.ensures in
    let nine = option_added _ _ _ _ _ eight c.rounds.ensures refl c.in_ok-arg-9.ensures in
    let ten = option_added _ _ _ _ _ nine c.log.ensures refl c.in_ok-arg-10.ensures in
    let eleven = option_added _ _ _ _ _ ten c.forget_rooms.ensures refl c.in_ok-arg-11.ensures in
    let twelve = option_added _ _ _ _ _ eleven c.closed.ensures refl c.in_ok-arg-12.ensures in
    let thirteen = option_added _ _ _ _ _ twelve c.output.ensures refl c.in_ok-arg-13.ensures in
    let fourteen = option_added _ _ _ _ _ thirteen c.origin.ensures refl c.in_ok-arg-14.ensures in
    let fifteen = option_added _ _ _ _ _ fourteen c.per_peer.ensures refl c.in_ok-arg-15.ensures in
    option_added _ _ _ _ _ fifteen c.store.ensures refl c.in_ok-command.ensures
