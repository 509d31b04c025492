-- Ends that are fed with any bytes.
use Rattle.std.proofs.Common.{◌≡◌, inl, inr, ℕ, List, [], ◌∷◌, ◌++◌, ap, refl, subst, sym, Option, Some, None}
use Rattle.tds_ends.specs.AllBytes.{AreSomeOf, AreToldBy, ClientHasRead, ClientReads, HasFault, ServerReads, new_reader}
use Rattle.tds_ends.specs.declared.listening.ClientStop.{ClientStop}
use Rattle.tds_ends.specs.declared.listening.ClientStop.TheVariants as client_stop
use Rattle.tds_ends.specs.declared.serving.ServerStop.{ServerStop}
use Rattle.tds_ends.specs.declared.serving.ServerStop.TheVariants as server_stop
use Rattle.tds_packet.specs.declared.fault.PacketFault.{PacketFault}
use Rattle.tds_packet.specs.declared.kind.Direction.TheVariants.{ToServer, ToClient}
use Rattle.tds_packet.specs.Faults.{fault_number}
use Rattle.tds_packet.specs.Reading.{Reading}
use Rattle.tds_token.specs.declared.token.Token.{Token}
use Rattle.tds_world.specs.declared.outcome.Layer.TheVariants.{Packet, Core}
use Rattle.tds_world.specs.declared.outcome.Layer.{Layer}
use Rattle.tds_play.specs.declared.feeding.Fault.{Fault}
use Rattle.tds_play.specs.AnyBytes.{FaultsBy, end_at}
use Rattle.tds_play.specs.Reads.{ClientIsFed, IsClientFault, IsServerFault}

-- ---- A fault

packet_fault : (r : Reading) (bytes : List ℕ) (f : Fault) (fault : PacketFault) → f ≡ record { end = end_at r.direction; layer = Packet; number = fault_number fault }
    → HasFault r bytes fault → FaultsBy r bytes f.end f.layer f.number
packet_fault r bytes f fault is found =
    subst (λ (g : Fault). FaultsBy r bytes g.end g.layer g.number) (sym is) (refl, fault, refl, found)

core_fault : (r : Reading) (bytes : List ℕ) (f : Fault) → f.end ≡ end_at r.direction → f.layer ≡ Core → FaultsBy r bytes f.end f.layer f.number
core_fault r bytes f at is = subst (λ (l : Layer). FaultsBy r bytes f.end l f.number) (sym is) at

-- ---- A server

server_fault : (stop : ServerStop) (f : Fault) (size : ℕ) (now : Reading) (bytes : List ℕ) → IsServerFault stop f → ServerReads (Some stop) (new_reader ToServer size) now bytes
    → FaultsBy (new_reader ToServer size) bytes f.end f.layer f.number
server_fault (server_stop.Packet fault) f size now bytes is reads = packet_fault (new_reader ToServer size) bytes f fault is reads
server_fault (server_stop.Server fault) f size now bytes is reads = core_fault (new_reader ToServer size) bytes f is.0 is.1
server_fault server_stop.NoMemory f size now bytes is reads = absurd is

pub server_refused : (found : Option ServerStop) (stop : ServerStop) (f : Fault) (size : ℕ) (now : Reading) (bytes : List ℕ) → found ≡ Some stop → IsServerFault stop f
    → ServerReads found (new_reader ToServer size) now bytes → FaultsBy (new_reader ToServer size) bytes f.end f.layer f.number
server_refused found stop f size now bytes at is reads =
    server_fault stop f size now bytes is (subst (λ (o : Option ServerStop). ServerReads o (new_reader ToServer size) now bytes) at reads)

-- ---- A client

client_fault : (stop : ClientStop) (f : Fault) (size : ℕ) (now : Reading) (columns : Option ℕ) (bytes : List ℕ) (given : List Token) → IsClientFault stop f
    → ClientReads (Some stop) (new_reader ToClient size) now columns bytes given → ClientIsFed size now columns bytes given (Some f)
client_fault (client_stop.Packet fault) f size now columns bytes given is reads = (packet_fault (new_reader ToClient size) bytes f fault is reads.0, reads.1)
client_fault (client_stop.Client fault) f size now columns bytes given is reads = (core_fault (new_reader ToClient size) bytes f is.0 is.1, reads)
client_fault client_stop.NoMemory f size now columns bytes given is reads = absurd is

pub client_refused : (found : Option ClientStop) (stop : ClientStop) (f : Fault) (size : ℕ) (now : Reading) (columns : Option ℕ) (bytes : List ℕ) (given : List Token) → found ≡ Some stop
    → IsClientFault stop f → ClientReads found (new_reader ToClient size) now columns bytes given → ClientIsFed size now columns bytes given (Some f)
client_refused found stop f size now columns bytes given at is reads =
    client_fault stop f size now columns bytes given is (subst (λ (o : Option ClientStop). ClientReads o (new_reader ToClient size) now columns bytes given) at reads)

-- ---- Fewer tokens

none_of : {A : Type 0} (ys : List A) → AreSomeOf {A = A} [] ys
none_of [] = refl
none_of (y ∷ ys) = inl (none_of ys)

fewer_by : {A : Type 0} (xs more others : List A) (y : A) (ys : List A) → xs ++ more ≡ y ∷ others → AreSomeOf others ys
    → ((us vs : List A) → AreSomeOf (us ++ vs) ys → AreSomeOf us ys) → AreSomeOf xs (y ∷ ys)
fewer_by [] more others y ys is some rest = none_of (y ∷ ys)
fewer_by {A} (x ∷ xs) more others y ys is some rest =
    let same : x ≡ y = cc in
    let tail : xs ++ more ≡ others = cc in
    inr (xs, ap (λ (z : A). z ∷ xs) same, rest xs more (subst (λ (zs : List A). AreSomeOf zs ys) (sym tail) some))

nothing_less : {A : Type 0} (xs more : List A) → xs ++ more ≡ [] → xs ≡ []
nothing_less [] more is = refl
nothing_less (x ∷ xs) more is = absurd (cc)

pub fewer : {A : Type 0} (ys xs more : List A) → AreSomeOf (xs ++ more) ys → AreSomeOf xs ys
fewer [] xs more is = nothing_less xs more is
fewer (y ∷ ys) xs more (inl some) = inl (fewer ys xs more some)
fewer (y ∷ ys) xs more (inr (others, is, some)) = fewer_by xs more others y ys is some (fewer ys)

pub fewer_told : (r : Reading) (bytes : List ℕ) (xs more : List Token) → AreToldBy r bytes (xs ++ more) → AreToldBy r bytes xs
fewer_told r bytes xs more told = record { packets = told.packets; rest = told.rest; whole = told.whole; some = fewer _ xs more told.some }

pub fewer_read : (first now : Reading) (columns : Option ℕ) (bytes : List ℕ) (xs more : List Token) → ClientHasRead first now columns bytes (xs ++ more) → ClientHasRead first now columns bytes xs
fewer_read first now columns bytes xs more read = record { packets = read.packets; read = read.read; columns_are = read.columns_are; some = fewer _ xs more read.some }

pub fewer_fed : (size : ℕ) (now : Reading) (columns : Option ℕ) (bytes : List ℕ) (xs more : List Token) (fault : Option Fault) → ClientIsFed size now columns bytes (xs ++ more) fault → ClientIsFed size now columns bytes xs fault
fewer_fed size now columns bytes xs more None fed = fewer_read (new_reader ToClient size) now columns bytes xs more fed
fewer_fed size now columns bytes xs more (Some f) fed = (fed.0, fewer_told (new_reader ToClient size) bytes xs more fed.1)
