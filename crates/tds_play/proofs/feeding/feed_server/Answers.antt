use Rattle.std.proofs.Common.{◌≡◌, ◌≢◌, ◌++◌, Option, Some, None, refl, subst}
use Rattle.tds_ends.specs.declared.serving.ServerStop.{ServerStop}
use Rattle.tds_ends.specs.declared.serving.ServerStop.TheVariants.{NoMemory}
use Rattle.tds_ends.specs.AllBytes.{ServerReads, new_reader}
use Rattle.tds_packet.specs.declared.kind.Direction.TheVariants.{ToServer}
use Rattle.tds_play.proofs.any_bytes.Fed.{server_refused}
use Rattle.tds_play.proofs.feeding.feed_server.Goals as goal

pub returns-in-None-clause-served : goal.returns-in-None-clause-served
returns-in-None-clause-served g c = λ packets rest then comes is.
    let some : c.serve.result.stop ≢ Some NoMemory = λ e. let none = c.in-None.is in absurd (cc) in
    let done = c.whole_packets_are_served.ensures _ _ _ _ rest _ _ _ _ c.serve.result packets then c.serve.ensures.serves comes is some in
    (refl, done.1, done.2)

some_other : (o : Option ServerStop) (x : ServerStop) → o ≡ Some x → x ≢ NoMemory → o ≢ Some NoMemory
some_other o x is other e = other (let same : x ≡ NoMemory = cc in same)

none_there : (o : Option ServerStop) (x : ServerStop) → o ≡ Some x → o ≡ None → ⊥
none_there o x is none = absurd (cc)

pub returns-in_ok-at_server-in-Some-clause-served : goal.returns-in_ok-at_server-in-Some-clause-served
returns-in_ok-at_server-in-Some-clause-served g c = λ packets rest then comes is.
    let some : c.serve.result.stop ≢ Some NoMemory = some_other _ _ c.in-Some.is c.in_ok-at_server-in-Some.ensures.some in
    let done = c.whole_packets_are_served.ensures _ _ _ _ rest _ _ _ _ c.serve.result packets then c.serve.ensures.serves comes is some in
    absurd (none_there _ _ c.in-Some.is done.0)

pub returns-in-None-clause-any : goal.returns-in-None-clause-any
returns-in-None-clause-any g c = λ size bytes read.
    subst (λ (o : Option ServerStop). ServerReads o (new_reader ToServer size) c.serve.new.reader (bytes ++ c.args.piece.now)) c.in-None.is
    (c.all_bytes_are_served.ensures _ (new_reader ToServer size) _ _ c.args.piece.now bytes _ _ _ _ c.serve.result read c.serve.ensures.serves)

pub returns-in_ok-at_server-in-Some-clause-any : goal.returns-in_ok-at_server-in-Some-clause-any
returns-in_ok-at_server-in-Some-clause-any g c = λ size bytes read.
    server_refused _ _ c.in_ok-at_server-in-Some.field-0 size _ (bytes ++ c.args.piece.now) c.in-Some.is c.in_ok-at_server-in-Some.ensures.fault
    (c.all_bytes_are_served.ensures _ (new_reader ToServer size) _ _ c.args.piece.now bytes _ _ _ _ c.serve.result read c.serve.ensures.serves)
