-- The stream of a link, below its output buffer.
use Rattle.std.specs.Prelude.{ℕ, Bool, true, false, not, List, Option, Result, Ok, Err}
use Rattle.std.specs.IoError.{error_kind}
use Rattle.std.specs.declared.io.Error.{Error}
use Rattle.std.specs.declared.io.ErrorKind.{ErrorKind}
use Rattle.std.specs.declared.io.ErrorKind.TheVariants.{WouldBlock}
use Rattle.std.specs.Io.Buffered.{writer_contents, writer_inner}
use Rattle.relay_link.specs.declared.corked_writer.CorkedWriter.{CorkedWriter}

-- an error that says that the stream has nothing to read now, or no capacity to write
abbrev pub is_would_block : ErrorKind → Bool
is_would_block WouldBlock = true
is_would_block kind = false

abbrev pub is_nothing_now : Error → Bool
is_nothing_now error = is_would_block (error_kind error)

-- a call on a stream failed, and not only for now
abbrev pub is_failure : {T : Type 0} → Result T Error → Bool
is_failure (Ok value) = false
is_failure (Err error) = not (is_nothing_now error)

module _ {S : Type 0} where
  abbrev pub stream_of : CorkedWriter S → S
  stream_of w = (writer_inner w.writer).stream

  -- the stream's last write or flush failed, be it for want of capacity
  abbrev pub is_blocked : CorkedWriter S → Bool
  is_blocked w = (writer_inner w.writer).blocked

  -- the stream's last call failed, and not only for now
  abbrev pub has_failed : CorkedWriter S → Bool
  has_failed w = (writer_inner w.writer).failed

  -- the bytes that the stream holds, where those are known, and then the output that is buffered
  -- for it
  abbrev pub written : (S → Option (List ℕ)) → CorkedWriter S → Option (List ℕ)
  written contents w = writer_contents (λ n. contents n.stream) w.writer
