-- The queues of a server's connections, and what a call makes of them.
use Rattle.std.specs.Prelude.{ℕ, Bool, ◌&&◌, ◌||◌, not, if◌then◌else◌}
use Rattle.relay_schedule.specs.Credit.{has_credit}
use Rattle.relay_schedule.specs.Queue.{Keys, Admits, MayAdmit, no_keys, is_empty, waits, admitting}
use Rattle.relay_schedule.specs.Queue.{queued, without_first}
use Rattle.relay_schedule.specs.Ready.{EachAdmits, LinesMayAdmit, no_lines, are_empty, stands}
use Rattle.relay_schedule.specs.Ready.{each_admitting, lined_up}
use Rattle.relay_schedule.specs.declared.credit.Credit.{Credit}
use Rattle.relay_schedule.specs.declared.queues.Output.{Output}
use Rattle.relay_schedule.specs.declared.queues.Output.TheVariants.{Corked, Waiting}
use Rattle.relay_schedule.specs.declared.queues.Queues.{Queues}
use Rattle.relay_schedule.specs.declared.queues.Wants.{Wants}

-- no key waits in any queue, and none is admitted
abbrev pub no_queues : Queues
no_queues = record {
  ready = no_lines;
  corked = no_keys;
  waiting = no_keys;
  held_back = no_keys;
  closing = no_keys;
}

-- there is memory for this key in each queue
pub record AllAdmit (key : ℕ) (queues : Queues) : Type 0 where
  pub ready : EachAdmits key queues.ready
  pub corked : Admits key queues.corked
  pub waiting : Admits key queues.waiting
  pub held_back : Admits key queues.held_back
  pub closing : Admits key queues.closing

-- each queue admits this key too, and those below it
abbrev pub all_admitting : ℕ → Queues → Queues
all_admitting key queues = record {
  ready = each_admitting key queues.ready;
  corked = admitting key queues.corked;
  waiting = admitting key queues.waiting;
  held_back = admitting key queues.held_back;
  closing = admitting key queues.closing;
}

-- nothing changes, but that each queue may admit this key too
pub record EachMayAdmit (key : ℕ) (old new : Queues) : Type 0 where
  pub ready : LinesMayAdmit key old.ready new.ready
  pub corked : MayAdmit key old.corked new.corked
  pub waiting : MayAdmit key old.waiting new.waiting
  pub held_back : MayAdmit key old.held_back new.held_back
  pub closing : MayAdmit key old.closing new.closing

-- the key stands behind the others for each turn that its connection wants; but for corked output
-- only if it has credit
abbrev pub queued_for : ℕ → Wants → Credit → Queues → Queues
queued_for key wants credit queues = record queues {
  ready = if wants.read then lined_up key credit queues.ready else queues.ready;
  corked =
      if wants.corked && has_credit credit then queued key queues.corked else queues.corked;
  waiting = if wants.waiting then queued key queues.waiting else queues.waiting;
  closing = if wants.closing then queued key queues.closing else queues.closing;
}

-- the key stands behind the others for messages that wait
abbrev pub with_writer : ℕ → Queues → Queues
with_writer key queues = record queues { waiting = queued key queues.waiting }

-- those that wait for a write turn for such output
abbrev pub writers : Output → Queues → Keys
writers Corked queues = queues.corked
writers Waiting queues = queues.waiting

-- the first of them has its turn
abbrev pub without_writer : Output → Queues → Queues
without_writer Corked queues = record queues { corked = without_first queues.corked }
without_writer Waiting queues = record queues { waiting = without_first queues.waiting }

-- those that are held back, and those that are closing
abbrev pub held_back : Queues → Keys
held_back queues = queues.held_back

abbrev pub closing : Queues → Keys
closing queues = queues.closing

-- the key is held back behind the others
abbrev pub with_held_back : ℕ → Queues → Queues
with_held_back key queues = record queues { held_back = queued key queues.held_back }

-- the first that was held back is not held back any more
abbrev pub without_held_back : Queues → Queues
without_held_back queues = record queues { held_back = without_first queues.held_back }

-- the first that is closing has its turn
abbrev pub without_closing : Queues → Queues
without_closing queues = record queues { closing = without_first queues.closing }

-- a key waits for a turn that can be given now, so that it is neither held back nor closing
abbrev pub some_waits : Queues → Bool
some_waits queues =
    not (are_empty queues.ready) || not (is_empty queues.corked) || not (is_empty queues.waiting)

-- whether a key waits for each turn that its connection wants: for corked output it may wait among
-- all others, and for messages it may be held back
abbrev pub waits_for : ℕ → Wants → Queues → Bool
waits_for key wants queues =
    (not wants.read || stands key queues.ready)
    && (not wants.corked || waits key queues.corked || waits key queues.waiting)
    && (not wants.waiting || waits key queues.waiting || waits key queues.held_back)
    && (not wants.closing || waits key queues.closing)
