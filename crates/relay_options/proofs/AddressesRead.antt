-- The address that a typed getter reads is one that its text writes.
use Rattle.std.proofs.Common.{◌≡◌, ◌∙◌, Option, Some, None, IfSome, refl, sym}
use Rattle.std.specs.Net.Grammar.{IsIpText, Parses}
use Rattle.std.specs.declared.net.ip_addr.IpAddr.{IpAddr}
use Rattle.clap.proofs.WalkLemmas.{one_text-rows}
use Rattle.clap.specs.Words.{ReadsOne, Text, found_of, one_text, rows_of}
use Rattle.clap.specs.declared.parser.ArgMatches.{ArgMatches}
use Rattle.relay_options.specs.CommandLine.{IsAddressIn}

at_text : (E : Type 0) (m : ArgMatches) (name : Text) (found : Option Text) (r : Option IpAddr)
    → one_text (found_of m) name ≡ found → (found ≡ None → r ≡ None)
    → ((t : Text) → found ≡ Some t → ReadsOne {T = IpAddr} {E = E} (Parses IsIpText) t r)
    → IfSome r (IsAddressIn name (rows_of (found_of m)))
at_text E m name found None is none value = tt
at_text E m name None (Some address) is none value = absurd (cc (none refl))
at_text E m name (Some t) (Some address) is none value = record {
  text = t;
  given = sym (one_text-rows (found_of m) name) ∙ is;
  writes = value t refl;
}

-- what `get_one::<IpAddr>` reads
pub address_read : (E : Type 0) (m : ArgMatches) (name : Text) (r : Option IpAddr)
    → (one_text (found_of m) name ≡ None → r ≡ None)
    → ((t : Text) → one_text (found_of m) name ≡ Some t
    → ReadsOne {T = IpAddr} {E = E} (Parses IsIpText) t r)
    → IfSome r (IsAddressIn name (rows_of (found_of m)))
address_read E m name r none value =
    at_text E m name (one_text (found_of m) name) r refl none value
