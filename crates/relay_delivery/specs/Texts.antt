-- Texts, one after another, to a client.
use Rattle.std.specs.Prelude.{◌≡◌, ⊤, ℕ, List, [], ◌∷◌, ◌++◌, Option, Some, option_and_then, Result}
use Rattle.std.specs.Prelude.{OnOk, IfErr, IsUtf8}
use Rattle.relay_follow.specs.Hearing.{as_client, told, hear_fault}
use Rattle.relay_follow.specs.declared.fault.HearFault.{HearFault}
use Rattle.relay_follow.specs.declared.fault.HearFault.TheVariants as hear
use Rattle.relay_proto.specs.Client.{Client}
use Rattle.relay_tree.specs.Document.{Document}
use Rattle.relay_delivery.specs.declared.fault.ReceiveFault.{ReceiveFault}
use Rattle.relay_delivery.specs.declared.fault.ReceiveFault.TheVariants.{NotUtf8, Refused, NoMemory}

-- the client after texts, in order; None if one of them is no message
abbrev pub told_all : Client → List (List ℕ) → Option Client
told_all c [] = Some c
told_all c (text ∷ texts) = option_and_then (λ next. told_all next texts) (told c text)

-- a follower heard one text
pub record HearsOne (old new : Option (ℕ × Document)) : Type 0 where
  pub text : List ℕ
  pub holds : told (as_client old) text ≡ Some (as_client new)

-- A follower heard some texts, in order, and nothing else changed what it holds.
pub record HearsTexts (old new : Option (ℕ × Document)) : Type 0 where
  pub texts : List (List ℕ)
  pub holds : told_all (as_client old) texts ≡ Some (as_client new)

-- the fault is that of a text to a follower: it can't be a frame's text, or the follower refuses
-- it, or memory runs out
abbrev pub IsFaultOf : ReceiveFault → Option (ℕ × Document) → List ℕ → Type 0
IsFaultOf NotUtf8 held text = ¬ (IsUtf8 text)
IsFaultOf (Refused fault) held text = hear_fault held text ≡ Some fault
IsFaultOf NoMemory held text = ⊤
IsFaultOf _ held text = ⊥

-- the fault of a text that a follower did not take
abbrev pub hearing_fault : HearFault → ReceiveFault
hearing_fault hear.NoMemory = NoMemory
hearing_fault fault = Refused fault

-- A follower heard some of the texts, in order, and stopped at the next one, for that reason.
pub record StopsAt (old new : Option (ℕ × Document)) (texts : List (List ℕ))
    (Why : Option (ℕ × Document) → List ℕ → Type 0) : Type 0 where
  pub heard : List (List ℕ)
  pub text : List ℕ
  pub rest : List (List ℕ)
  pub all : texts ≡ heard ++ text ∷ rest
  pub holds : told_all (as_client old) heard ≡ Some (as_client new)
  pub why : Why new text

-- The outcome of texts to a follower: it heard all of them, in order, or it stopped at one of them,
-- and the fault is that of this text.
pub record HearsAll {E : Type 0} (IsFault : E → Option (ℕ × Document) → List ℕ → Type 0)
    (old new : Option (ℕ × Document)) (texts : List (List ℕ))
    (result : Result (Unit {0}) E) : Type 0 where
  pub heard : OnOk result (told_all (as_client old) texts ≡ Some (as_client new))
  pub stopped : IfErr result (λ fault. StopsAt old new texts (IsFault fault))
