-- The counts of the commits of a store, and how they change.
use Rattle.std.specs.Prelude.{ℕ, ◌+◌, ◌-◌, ◌^◌, cond, min, nat_lt}
use Rattle.relay_admin.specs.declared.commits.Commits.{Commits}

-- a sum, which stops at 2 ^ 64 - 1
abbrev pub added : ℕ → ℕ → ℕ
added count more = min (count + more) (2 ^ 64 - 1)

-- a count with one more commit, if that took at most so many microseconds
abbrev pub counted_within : ℕ → ℕ → ℕ → ℕ
counted_within most micros count = cond (nat_lt most micros) count (added count 1)

-- one more commit, which took so many microseconds
abbrev pub with_commit : ℕ → Commits → Commits
with_commit micros c = record {
  within_1_ms = counted_within 1_000 micros c.within_1_ms;
  within_2500_us = counted_within 2_500 micros c.within_2500_us;
  within_5_ms = counted_within 5_000 micros c.within_5_ms;
  within_10_ms = counted_within 10_000 micros c.within_10_ms;
  within_25_ms = counted_within 25_000 micros c.within_25_ms;
  within_100_ms = counted_within 100_000 micros c.within_100_ms;
  within_500_ms = counted_within 500_000 micros c.within_500_ms;
  within_1_s = counted_within 1_000_000 micros c.within_1_s;
  all = added c.all 1;
  micros = added c.micros micros;
  failed = c.failed;
}

-- one more commit, which failed
abbrev pub with_failure : Commits → Commits
with_failure c = record c { failed = added c.failed 1 }
