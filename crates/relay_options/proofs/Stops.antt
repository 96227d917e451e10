-- The cause for which there is no job, from an error of `clap`.
use Rattle.std.proofs.Common.{◌≡◌, [], inl, inr}
use Rattle.clap.specs.Words.{HasKind, IsAmong, Kinds, kind_of}
use Rattle.clap.specs.declared.error.Error.{Error}
use Rattle.clap.specs.declared.error.ErrorKind.{ErrorKind}
use Rattle.clap.specs.declared.error.ErrorKind.TheVariants as kind
use Rattle.relay_options.specs.CommandLine.{IsNoHelp, StopsAt, StopsBy}
use Rattle.relay_options.specs.declared.job.Stop.{Stop}
use Rattle.relay_options.specs.declared.job.Stop.TheVariants.{Help, Misuse, NoMemory}

among : (kinds : Kinds) (k other : ErrorKind) → k ≡ other → IsAmong k kinds → IsAmong other kinds
among kinds k other is a = rw (← is) a

-- memory that ran out is no help
out_of_help : (k : ErrorKind) → k ≡ kind.OutOfMemory → k ≡ kind.DisplayHelp → ⊥
out_of_help k out help = cc

out_of_version : (k : ErrorKind) → k ≡ kind.OutOfMemory → k ≡ kind.DisplayVersion → ⊥
out_of_version k out version = cc

pub stops_at : (kinds : Kinds) (e : Error) (stop : Stop) → HasKind kinds e
    → StopsBy (kind_of e) stop → StopsAt kinds stop
stops_at kinds e (Help text) (inl out) (inl help) = absurd (out_of_help (kind_of e) out help)
stops_at kinds e (Help text) (inl out) (inr version) =
    absurd (out_of_version (kind_of e) out version)
stops_at kinds e (Help text) (inr a) (inl help) = inl (among kinds (kind_of e) _ help a)
stops_at kinds e (Help text) (inr a) (inr version) = inr (among kinds (kind_of e) _ version a)
stops_at kinds e (Misuse text) (inl out) apart = absurd (apart.0 out)
stops_at kinds e (Misuse text) (inr a) apart = inr (kind_of e, a, apart.1, apart.2)
stops_at kinds e NoMemory has by = tt

pub refused_at : (kinds : Kinds) (stop : Stop) → kinds ≡ [] → IsNoHelp stop → StopsAt kinds stop
refused_at kinds (Misuse text) is plain = inl is
refused_at kinds (Help text) is plain = absurd plain
refused_at kinds NoMemory is plain = tt
