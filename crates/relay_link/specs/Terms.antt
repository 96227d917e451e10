-- The terms on which a link's WebSocket speaks: its role, and the limits of what it takes.
use Rattle.std.specs.Prelude.{◌≡◌, Some, false}
use Rattle.websocket.specs.Connection.{Connection}
use Rattle.websocket.specs.declared.protocol.config.Role.TheVariants.{Server}
use Rattle.websocket.specs.declared.protocol.config.WebSocketConfig.{WebSocketConfig}
use Rattle.relay_link.specs.declared.socket.TheConstants.{MAX_MESSAGE}

-- a message has so many bytes at most, and so has each of its frames; a frame that is not masked is
-- refused (RFC 6455, section 5.1)
abbrev pub limits : WebSocketConfig
limits = record {
  max_message_size = Some MAX_MESSAGE;
  max_frame_size = Some MAX_MESSAGE;
  accept_unmasked_frames = false;
}

-- it speaks as a server, whose own frames are not masked, and keeps the limits
pub record Serves (conn : Connection) : Type 0 where
  pub role : conn.role ≡ Server
  pub limited : conn.config ≡ limits

-- what comes after speaks on the same terms
pub record KeepsTerms (old new : Connection) : Type 0 where
  pub role : new.role ≡ old.role
  pub config : new.config ≡ old.config
