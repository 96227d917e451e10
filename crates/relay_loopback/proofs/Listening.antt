-- The fault of one address is that of an address.
use Rattle.std.specs.declared.net.socket_addr.SocketAddr.{SocketAddr}
use Rattle.relay_loopback.specs.Faults.{IsListen, IsListenAt}
use Rattle.relay_loopback.specs.declared.fault.ServeFault.{ServeFault}
use Rattle.relay_loopback.specs.declared.fault.ServeFault.TheVariants.{Listen, Wait, Store, Lost}
use Rattle.relay_loopback.specs.declared.fault.ServeFault.TheVariants.{Ended}

pub is_listen : (address : SocketAddr) (fault : ServeFault) → IsListenAt address fault
    → IsListen fault
is_listen address (Listen at code) h = tt
is_listen address Wait h = absurd h
is_listen address Store h = absurd h
is_listen address Lost h = absurd h
is_listen address (Ended fault) h = absurd h
