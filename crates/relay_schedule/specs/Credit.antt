-- The credit that a connection has left of what rounds gave it.
use Rattle.std.specs.Prelude.{ℕ, ◌-◌, Bool, ◌&&◌, nat_le, nat_lt, if◌then◌else◌}
use Rattle.relay_schedule.specs.declared.credit.Credit.{Credit}
use Rattle.relay_schedule.specs.declared.credit.Debt.{Debt}
use Rattle.relay_schedule.specs.declared.credit.Debt.TheVariants.{Light, Heavy}
use Rattle.relay_schedule.specs.declared.credit.TheConstants.{ROUND_CREDIT}

-- what is left: a round's credit less what was spent of it, and nothing for whoever owes
abbrev pub left : Credit → ℕ
left credit = ROUND_CREDIT - credit.spent

-- whether any is left
abbrev pub has_credit : Credit → Bool
has_credit credit = nat_lt credit.spent ROUND_CREDIT

-- the debt that it is if nothing is left
abbrev pub debt_of : Credit → Debt
debt_of credit = if credit.is_heavy then Heavy else Light

-- the credit once a round has given its part, which each round does once; a debt that is paid is
-- no longer heavy
abbrev pub renewed : ℕ → Credit → Credit
renewed round credit =
    if nat_lt credit.round round then record {
      spent = credit.spent - ROUND_CREDIT;
      round = round;
      is_heavy = credit.is_heavy && nat_le ROUND_CREDIT (credit.spent - ROUND_CREDIT);
    } else credit
