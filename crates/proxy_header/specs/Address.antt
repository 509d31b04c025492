-- The address that a header names, as a socket's.
use Rattle.std.specs.Prelude.{◌≡◌, ℕ, List, Option, Some, None}
use Rattle.std.specs.declared.net.ip_addr.IpAddr.TheVariants as addresses
use Rattle.std.specs.declared.net.ipv4_addr.Ipv4Addr.{Ipv4Addr}
use Rattle.std.specs.declared.net.ipv6_addr.Ipv6Addr.{Ipv6Addr}
use Rattle.std.specs.declared.net.socket_addr.SocketAddr.{SocketAddr}
use Rattle.std.specs.Net.Addr.{ipv4_octets, ipv6_segments, segments_of}
use Rattle.std.specs.Net.Socket.{socket_ip, socket_port}
use Rattle.proxy_header.specs.declared.source.Source.{Source}
use Rattle.proxy_header.specs.declared.source.Source.TheVariants.{Unsaid, V4, V6}

-- an address of IPv4 with these octets, and this port
pub record IsOfV4 (octets : List ℕ) (port : ℕ) (address : SocketAddr) : Type 0 where
  pub ip : Ipv4Addr
  pub is : socket_ip address ≡ addresses.V4 ip
  pub spelled : ipv4_octets ip ≡ octets
  pub at : socket_port address ≡ port

-- the same of IPv6
pub record IsOfV6 (octets : List ℕ) (port : ℕ) (address : SocketAddr) : Type 0 where
  pub ip : Ipv6Addr
  pub is : socket_ip address ≡ addresses.V6 ip
  pub spelled : ipv6_segments ip ≡ segments_of octets
  pub at : socket_port address ≡ port

abbrev pub IsAddressOf : Source → Option SocketAddr → Type 0
IsAddressOf Unsaid address = address ≡ None
IsAddressOf (V4 octets port) None = ⊥
IsAddressOf (V4 octets port) (Some address) = IsOfV4 octets port address
IsAddressOf (V6 octets port) None = ⊥
IsAddressOf (V6 octets port) (Some address) = IsOfV6 octets port address
