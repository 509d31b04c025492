use Rattle.std.proofs.Common.{◌≡◌, ◌≢◌, ◌++◌, Option, Some, None, refl, subst}
use Rattle.tds_ends.specs.declared.listening.ClientStop.{ClientStop}
use Rattle.tds_ends.specs.declared.listening.ClientStop.TheVariants.{NoMemory}
use Rattle.tds_ends.specs.AllBytes.{ClientReads, new_reader}
use Rattle.tds_pool.specs.Cleaning.{client_at}
use Rattle.tds_pool.specs.Connections.{connections}
use Rattle.tds_packet.specs.declared.kind.Direction.TheVariants.{ToClient}
use Rattle.tds_play.proofs.any_bytes.Fed.{client_refused}
use Rattle.tds_play.proofs.feeding.feed_client.Goals as goal

pub returns-in-None-clause-listened : goal.returns-in-None-clause-listened
returns-in-None-clause-listened c = λ packets rest then comes is.
    let some : c.listen_in-fed.result.stop ≢ Some NoMemory = λ e. let none = c.in-None.is in absurd (cc) in
    let done = c.whole_packets_are_heard.ensures _ _ _ rest _ _ _ _ c.listen_in-fed.result packets then c.listen_in-fed.ensures.listens comes is some in
    (refl, done.1, done.2)

some_other : (o : Option ClientStop) (x : ClientStop) → o ≡ Some x → x ≢ NoMemory → o ≢ Some NoMemory
some_other o x is other e = other (let same : x ≡ NoMemory = cc in same)

none_there : (o : Option ClientStop) (x : ClientStop) → o ≡ Some x → o ≡ None → ⊥
none_there o x is none = absurd (cc)

pub returns-in_ok-at_client-in-Some-clause-listened : goal.returns-in_ok-at_client-in-Some-clause-listened
returns-in_ok-at_client-in-Some-clause-listened c = λ packets rest then comes is.
    let some : c.listen_in-fed.result.stop ≢ Some NoMemory = some_other _ _ c.in-Some.is c.in_ok-at_client-in-Some.ensures.some in
    let done = c.whole_packets_are_heard.ensures _ _ _ rest _ _ _ _ c.listen_in-fed.result packets then c.listen_in-fed.ensures.listens comes is some in
    absurd (none_there _ _ c.in-Some.is done.0)

pub returns-in-None-clause-any : goal.returns-in-None-clause-any
returns-in-None-clause-any c = λ size bytes given read.
    subst (λ (o : Option ClientStop). ClientReads o (new_reader ToClient size) c.listen_in-fed.new.reader (client_at c.args.number (connections c.listen_in-fed.new.pool)).columns (bytes ++ c.args.piece.now) (given ++ c.listen_in-fed.new.told.items)) c.in-None.is
    (c.all_bytes_are_heard.ensures (new_reader ToClient size) _ _ c.args.piece.now bytes _ _ _ _ given c.listen_in-fed.result read c.listen_in-fed.ensures.listens)

pub returns-in_ok-at_client-in-Some-clause-any : goal.returns-in_ok-at_client-in-Some-clause-any
returns-in_ok-at_client-in-Some-clause-any c = λ size bytes given read.
    client_refused _ _ c.in_ok-at_client-in-Some.field-0 size _ (client_at c.args.number (connections c.listen_in-fed.new.pool)).columns (bytes ++ c.args.piece.now) (given ++ c.listen_in-fed.new.told.items) c.in-Some.is c.in_ok-at_client-in-Some.ensures.fault
    (c.all_bytes_are_heard.ensures (new_reader ToClient size) _ _ c.args.piece.now bytes _ _ _ _ given c.listen_in-fed.result read c.listen_in-fed.ensures.listens)
