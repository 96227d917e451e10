-- The fault of an address that cannot be opened for listening.
use Rattle.std.specs.Prelude.{◌≡◌, ⊤}
use Rattle.std.specs.declared.net.socket_addr.SocketAddr.{SocketAddr}
use Rattle.relay_loopback.specs.declared.fault.ServeFault.{ServeFault}
use Rattle.relay_loopback.specs.declared.fault.ServeFault.TheVariants.{Listen}

-- the fault of this address
abbrev pub IsListenAt : SocketAddr → ServeFault → Type 0
IsListenAt address (Listen at code) = at ≡ address
IsListenAt address _ = ⊥

-- that of some address
abbrev pub IsListen : ServeFault → Type 0
IsListen (Listen address code) = ⊤
IsListen _ = ⊥
