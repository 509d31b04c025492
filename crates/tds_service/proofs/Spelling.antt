-- What goes out of a request is a stream of the client.
use Rattle.std.proofs.Common.{◌≡◌, ◌∙◌, ℕ, List, [], ◌∷◌, ◌++◌, sym, ap, subst}
use Rattle.std.proofs.lemmas.List.{append_cancel_left}
use Rattle.std.specs.Prelude.{Some, Result, Ok}
use Rattle.tds_client.specs.declared.fault.ClientRefusal.{ClientRefusal}
use Rattle.tds_client.specs.Sending.{Does, Effect}
use Rattle.tds_client.specs.Session.{ClientSession}
use Rattle.tds_client.specs.Streamed.{Streams}
use Rattle.tds_client.specs.Streams.{finished, put}
use Rattle.tds_service.specs.declared.connection.Connection.{Connection}
use Rattle.tds_service.specs.declared.service.Service.{Service}
use Rattle.tds_service.specs.Spelling.{Spells, SpellsBy}
use Rattle.tds_service.specs.Table.{client_of}

-- what was appended is what the client puts out
put_out : (wanted : Result (Effect (Unit {0})) ClientRefusal) (s : ClientSession) (before bytes : List ℕ) → Does wanted tt s before (before ++ bytes)
    → wanted ≡ Ok (record { answer = tt; session = s; bytes = bytes })
put_out wanted s before bytes did =
    did.1 ∙ ap (λ (more : List ℕ). let e : Effect (Unit {0}) = record { answer = tt; session = s; bytes = more } in let r : Result (Effect (Unit {0})) ClientRefusal = Ok e in r) (sym (append_cancel_left before bytes did.0 did.2))

pub streams_of : (c : Connection) (parts : List (List ℕ)) (bytes : List ℕ) (behind : Connection) → Spells c parts bytes behind → Streams c.client parts bytes behind.client
streams_of c [] bytes behind (before, did) = put_out (finished c.client) behind.client before bytes did
streams_of c (part ∷ parts) bytes behind (first, rest, middle, before, split, did, more) =
    (first, rest, middle.client, split, put_out (put c.client part) middle.client before first did, streams_of middle parts rest behind more)

same_client : (a b : ClientSession) → Some a ≡ Some b → a ≡ b
same_client a b e = let u : a ≡ b = cc in u

-- by a lease: the client is the one that the connection has
pub streams_by : (lease : ℕ) (s : Service) (c : ClientSession) (parts : List (List ℕ)) (bytes : List ℕ) (behind : Service) → client_of lease s ≡ Some c → SpellsBy lease s parts bytes behind
    → (last : ClientSession) × Streams c parts bytes last
streams_by lease s c [] bytes behind is (before, did) =
    let same = same_client c did.session (sym is ∙ did.moves.was) in (
      did.next,
      subst (λ (x : ClientSession). Streams x [] bytes did.next) (sym same) (put_out (finished did.session) did.next before bytes did.does),
    )
streams_by lease s c (part ∷ parts) bytes behind is (first, rest, middle, next, before, split, did, kept, more) =
    let same = same_client c did.session (sym is ∙ did.moves.was) in
    let others = streams_by lease next did.next parts rest behind (kept ∙ did.moves.is) more in (
      others.0,
      (
        first,
        rest,
        did.next,
        split,
        ap (λ (x : ClientSession). put x part) same ∙ put_out (put did.session part) did.next before first did.does,
        others.1,
      ),
    )
