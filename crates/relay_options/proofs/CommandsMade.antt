-- A command with one option or one subcommand more.
use Rattle.std.proofs.Common.{◌≡◌, ◌∙◌, ◌&&◌, Bool, true, false, not, ap, ap₂, refl, sym}
use Rattle.std.proofs.Common.{true≢false, rules, tests}
use Rattle.clap.proofs.OnLiterals.{clap_on_literals}
use Rattle.std.specs.Prelude.{is_some}
use Rattle.clap.specs.Walk.{is_empty, is_simple_arg}
use Rattle.clap.specs.Words.{AddsArg, AddsSubcommand, App, Rule, app_of, is_simple, rule_of}
use Rattle.clap.specs.Words.{is_simple_and_free, with_rule, with_subcommand}
use Rattle.clap.specs.declared.builder.Arg.{Arg}
use Rattle.clap.specs.declared.builder.Command.{Command}
use Rattle.relay_options.specs.CommandLine.{relay_command}

-- the last of ten tests that hold
last_false : (a b c d e f g h i j : Bool)
    → (a && (b && (c && (d && (e && (f && (g && (h && (i && not j))))))))) ≡ true → j ≡ false
last_false true true true true true true true true true false t = refl
last_false true true true true true true true true true true t = absurd (true≢false (sym t))
last_false false b c d e f g h i j t = absurd (true≢false (sym t))
last_false true false c d e f g h i j t = absurd (true≢false (sym t))
last_false true true false d e f g h i j t = absurd (true≢false (sym t))
last_false true true true false e f g h i j t = absurd (true≢false (sym t))
last_false true true true true false f g h i j t = absurd (true≢false (sym t))
last_false true true true true true false g h i j t = absurd (true≢false (sym t))
last_false true true true true true true false h i j t = absurd (true≢false (sym t))
last_false true true true true true true true false i j t = absurd (true≢false (sym t))
last_false true true true true true true true true false j t = absurd (true≢false (sym t))

-- a simple argument is not global
not_global : (arg : Arg) → is_simple_arg arg ≡ true → arg.global ≡ false
not_global a t = last_false (is_empty a.overrides.items) (is_empty a.default_vals_ifs.items)
    (is_empty a.groups.items) (not (is_some a.val_delim)) (not (is_some a.terminator))
    (not a.allow_hyphen_values) (not a.allow_negative_numbers) (not a.require_equals) (not a.last)
    a.global t

pub option_added : (app : App) (option : Rule) (old : Command) (arg : Arg) (new : Command)
    → app_of old ≡ app → rule_of arg ≡ option → option.is_simple ≡ true → AddsArg old arg new
    → app_of new ≡ with_rule app option
option_added app option old arg new is o simple adds =
    adds.shape (not_global arg (ap (λ (r : Rule). r.is_simple) o ∙ simple)) ∙ ap₂ with_rule is o

with_plain_command : (old sub new : Command) → (app_of sub).top.is_plain ≡ true
    → AddsSubcommand old sub new → app_of new ≡ with_subcommand (app_of old) (app_of sub).top
with_plain_command old sub new plain adds = adds.shape (search (rules, tests))

pub command_added : (app inner : App) (old sub new : Command)
    → app_of old ≡ app → app_of sub ≡ inner → inner.top.is_plain ≡ true
    → AddsSubcommand old sub new → app_of new ≡ with_subcommand app inner.top
command_added app inner old sub new is s plain adds =
    with_plain_command old sub new (ap (λ (a : App). a.top.is_plain) s ∙ plain) adds
    ∙ ap₂ with_subcommand is (ap (λ (a : App). a.top) s)

-- so that `clap` states the matches exactly
pub relay_is_simple : is_simple relay_command ≡ true
unfolding clap_on_literals
relay_is_simple = refl

-- so that `clap` states the faults exactly
pub relay_is_free : is_simple_and_free relay_command ≡ true
unfolding clap_on_literals
relay_is_free = refl
