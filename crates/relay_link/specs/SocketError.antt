-- The errors that a socket can return once its handshake is done.
use Rattle.std.specs.Prelude.{⊤}
use Rattle.tungstenite.specs.declared.error.Error.{Error}
use Rattle.tungstenite.specs.declared.error.Error.TheVariants.{AttackAttempt, Handshake}
use Rattle.tungstenite.specs.declared.error.Error.TheVariants.{HandshakeIncomplete}
use Rattle.tungstenite.specs.declared.error.Error.TheVariants.{JunkAfterRequest}
use Rattle.tungstenite.specs.declared.error.Error.TheVariants.{CustomResponseSuccessful, Url, Http}
use Rattle.tungstenite.specs.declared.error.Error.TheVariants.{Refused}

-- all but those of a handshake
abbrev pub IsOfSocket : Error → Type 0
IsOfSocket AttackAttempt = ⊥
IsOfSocket (Handshake cause) = ⊥
IsOfSocket HandshakeIncomplete = ⊥
IsOfSocket JunkAfterRequest = ⊥
IsOfSocket CustomResponseSuccessful = ⊥
IsOfSocket Url = ⊥
IsOfSocket (Http response) = ⊥
IsOfSocket (Refused response) = ⊥
IsOfSocket _ = ⊤
