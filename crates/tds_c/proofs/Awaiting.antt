-- A client that awaits the answer: of its value only what says where the request is has changed.
use Rattle.std.proofs.Common.{◌≡◌, ◌∙◌, ℕ, ◌==◌, nat_le, ◌&&◌, if◌then◌else◌, Bool, true, false, [], Option, Some, None, refl, sym, ap, subst}
use Rattle.std.proofs.lemmas.Bool.{eqb-true}
use Rattle.tds_packet.specs.declared.kind.Kind.{Kind}
use Rattle.tds_packet.specs.declared.status.Reset.{Reset}
use Rattle.tds_packet.specs.declared.status.Reset.TheVariants.{Full, KeepTransaction}
use Rattle.tds_client.specs.declared.client.parts.ClientParts.{ClientParts}
use Rattle.tds_client.specs.declared.client.parts.StageParts.{StageParts}
use Rattle.tds_client.specs.declared.client.parts.StageParts.TheVariants as stages
use Rattle.tds_client.specs.declared.fault.ClientFault.{ClientFault}
use Rattle.tds_client.specs.declared.heard.FinalDone.{FinalDone}
use Rattle.tds_client.specs.declared.heard.Heard.{Heard}
use Rattle.tds_client.specs.declared.heard.FinalDone.TheVariants.{Awaited, Answered, Acknowledged}
use Rattle.tds_client.specs.Parts.{parts_of, session_from, stage_from}
use Rattle.tds_client.specs.Session.{ClientSession, Reading, unless_idle, with_stage}
use Rattle.tds_c.specs.declared.client.TdsClient.{TdsClient}
use Rattle.tds_c.specs.Calls.{value_of}
use Rattle.tds_walk.specs.Wire.{◌>>=◌}
use Rattle.tds_c.specs.Plain.{client_of, columns_from, columns_number, done_from, done_number, fault_from, have_room, kind_from, mark_from, mark_number, parts_from, plain_of, size_from, stage_from_number}
use Rattle.tds_c.proofs.Joining.{parted}

-- ---- The numbers of a client's value

mark_by : (n : ℕ) (a b c : Bool) (m : Option Reset) → (n == 0) ≡ a → (n == 1) ≡ b → (n == 2) ≡ c → (if a then Some None else if b then Some (Some Full) else if c then Some (Some KeepTransaction) else None) ≡ Some m → mark_number m ≡ n
mark_by n true b c m x y z h = let same : None ≡ m = cc in sym (eqb-true n 0 x ∙ ap mark_number same)
mark_by n false true c m x y z h = let same : Some Full ≡ m = cc in sym (eqb-true n 1 y ∙ ap mark_number same)
mark_by n false false true m x y z h = let same : Some KeepTransaction ≡ m = cc in sym (eqb-true n 2 z ∙ ap mark_number same)
mark_by n false false false m x y z h = absurd cc

mark_back : (n : ℕ) (m : Option Reset) → mark_from n ≡ Some m → mark_number m ≡ n
unfolding mark_from
mark_back n m h = mark_by n (n == 0) (n == 1) (n == 2) m refl refl refl h

done_by : (n : ℕ) (a b c : Bool) (m : FinalDone) → (n == 0) ≡ a → (n == 1) ≡ b → (n == 2) ≡ c → (if a then Some Awaited else if b then Some Answered else if c then Some Acknowledged else None) ≡ Some m → done_number m ≡ n
done_by n true b c m x y z h = let same : Awaited ≡ m = cc in sym (eqb-true n 0 x ∙ ap done_number same)
done_by n false true c m x y z h = let same : Answered ≡ m = cc in sym (eqb-true n 1 y ∙ ap done_number same)
done_by n false false true m x y z h = let same : Acknowledged ≡ m = cc in sym (eqb-true n 2 z ∙ ap done_number same)
done_by n false false false m x y z h = absurd cc

done_back : (n : ℕ) (m : FinalDone) → done_from n ≡ Some m → done_number m ≡ n
unfolding done_from
done_back n m h = done_by n (n == 0) (n == 1) (n == 2) m refl refl refl h

columns_by : (n : ℕ) (a b : Bool) (m : Option ℕ) → (n == 0) ≡ a → (if a then Some None else if b then Some (Some n) else None) ≡ Some m → columns_number m ≡ n
columns_by n true b m x h = let same : None ≡ m = cc in sym (eqb-true n 0 x ∙ ap columns_number same)
columns_by n false true m x h = let same : Some n ≡ m = cc in sym (ap columns_number same)
columns_by n false false m x h = absurd cc

columns_back : (n : ℕ) (m : Option ℕ) → columns_from n ≡ Some m → columns_number m ≡ n
unfolding columns_from
columns_back n m h = columns_by n (n == 0) (nat_le n 16) m refl h

size_by : (n m : ℕ) (a : Bool) → (if a then Some n else None) ≡ Some m → m ≡ n
size_by n m true h = cc
size_by n m false h = absurd cc

size_back : (n m : ℕ) → size_from n ≡ Some m → m ≡ n
unfolding size_from
size_back n m h = size_by n m (nat_le 512 n && nat_le n 32767) h

-- ---- The parts that a value has

-- the numbers of these parts, but for the stage
pub record IsOf (c : TdsClient) (p : ClientParts) : Type 0 where
  pub descriptor : c.descriptor ≡ p.heard.descriptor
  pub size : p.size ≡ c.size
  pub size_is : size_from c.size ≡ Some p.size
  pub columns_are : columns_from c.columns ≡ Some p.columns
  pub stage : stage_from_number c ≡ Some p.stage
  pub mark : mark_number p.heard.mark ≡ c.mark
  pub done : done_number p.heard.done ≡ c.done
  pub columns : columns_number p.columns ≡ c.columns

abbrev from_all : TdsClient → Option ℕ → Option StageParts → Option (Option Reset) → Option FinalDone → Option (Option ℕ) → Option ClientParts
from_all c size stage mark done columns = do
  size ← size
  stage ← stage
  mark ← mark
  done ← done
  columns ← columns
  Some (record { size = size; stage = stage; heard = record { descriptor = c.descriptor; mark = mark; done = done }; columns = columns })

is_of : (c : TdsClient) (p : ClientParts) (size : Option ℕ) (stage : Option StageParts) (mark : Option (Option Reset)) (done : Option FinalDone) (columns : Option (Option ℕ))
    → size_from c.size ≡ size → stage_from_number c ≡ stage → mark_from c.mark ≡ mark → done_from c.done ≡ done → columns_from c.columns ≡ columns → from_all c size stage mark done columns ≡ Some p → IsOf c p
is_of c p None stage mark last columns a b d e f h = absurd cc
is_of c p (Some size) None mark last columns a b d e f h = absurd cc
is_of c p (Some size) (Some stage) None last columns a b d e f h = absurd cc
is_of c p (Some size) (Some stage) (Some mark) None columns a b d e f h = absurd cc
is_of c p (Some size) (Some stage) (Some mark) (Some done) None a b d e f h = absurd cc
is_of c p (Some size) (Some stage) (Some mark) (Some done) (Some columns) a b d e f h =
    let same : (let q : ClientParts = record { size = size; stage = stage; heard = record { descriptor = c.descriptor; mark = mark; done = done }; columns = columns } in q) ≡ p = cc in
    record {
      descriptor = ap (λ (q : ClientParts). q.heard.descriptor) same;
      size = sym (ap (λ (q : ClientParts). q.size) same) ∙ size_back c.size size a;
      size_is = a ∙ ap (λ (q : ClientParts). Some q.size) same;
      columns_are = f ∙ ap (λ (q : ClientParts). Some q.columns) same;
      stage = b ∙ ap (λ (q : ClientParts). Some q.stage) same;
      mark = sym (ap (λ (q : ClientParts). mark_number q.heard.mark) same) ∙ mark_back c.mark mark d;
      done = sym (ap (λ (q : ClientParts). done_number q.heard.done) same) ∙ done_back c.done done e;
      columns = sym (ap (λ (q : ClientParts). columns_number q.columns) same) ∙ columns_back c.columns columns f;
    }

given_by : (b : Bool) (x s : ClientSession) → (if b then Some x else None) ≡ Some s → x ≡ s
given_by true x s h = cc
given_by false x s h = absurd cc

found : (o : Option ClientParts) (s : ClientSession) → (o >>= λ parts. if have_room parts.stage 0 then Some (session_from parts []) else None) ≡ Some s → o ≡ Some (parts_of s)
found None s h = absurd cc
found (Some parts) s h = ap Some (sym (parted parts []) ∙ ap parts_of (given_by (have_room parts.stage 0) _ s h))

pub value_is : (c : TdsClient) (s : ClientSession) → client_of c [] ≡ Some s → IsOf c (parts_of s)
unfolding client_of parts_from
value_is c s held =
    is_of c (parts_of s) (size_from c.size) (stage_from_number c) (mark_from c.mark) (done_from c.done) (columns_from c.columns) refl refl refl refl refl (found (parts_from c) s held)

-- ---- The stage

idle_by : (packets : ℕ) (a b d e f : Bool) (kind : Option Kind) (fault : Option ClientFault)
    → (if a then Some stages.Idle
    else if b then (kind >>= λ kind. Some (stages.Sending kind packets))
    else if d then Some stages.Reading
    else if e then Some stages.Cancelling
    else if f then (fault >>= λ fault. Some (stages.Broken fault))
    else None) ≡ Some stages.Idle → a ≡ true
idle_by packets true b d e f kind fault h = refl
idle_by packets false true d e f None fault h = absurd cc
idle_by packets false true d e f (Some kind) fault h = absurd cc
idle_by packets false false true e f kind fault h = absurd cc
idle_by packets false false false true f kind fault h = absurd cc
idle_by packets false false false false true kind None h = absurd cc
idle_by packets false false false false true kind (Some fault) h = absurd cc
idle_by packets false false false false false kind fault h = absurd cc

idle_number : (c : TdsClient) → stage_from_number c ≡ Some stages.Idle → c.stage ≡ 0
unfolding stage_from_number
idle_number c h = eqb-true c.stage 0 (idle_by c.packets (c.stage == 0) (c.stage == 1) (c.stage == 2) (c.stage == 3) (c.stage == 4) (kind_from c.kind) (fault_from c.fault c.token_fault) h)

idle_stage : (p : StageParts) → unless_idle (stage_from p []) ≡ None → p ≡ stages.Idle
idle_stage stages.Idle h = refl
idle_stage (stages.Sending kind packets) h = absurd cc
idle_stage stages.Reading h = absurd cc
idle_stage stages.Cancelling h = absurd cc
idle_stage (stages.Broken fault) h = absurd cc

pub is_idle : (c : TdsClient) (p : ClientParts) → client_of c [] ≡ Some (session_from p []) → unless_idle (stage_from p.stage []) ≡ None → c.stage ≡ 0
is_idle c p held idle =
    let value = value_is c (session_from p []) held in
    idle_number c (value.stage ∙ ap (λ (q : ClientParts). Some q.stage) (parted p []) ∙ ap Some (idle_stage p.stage idle))

-- ---- Where the answer is awaited

pub awaits : (c : TdsClient) (s : ClientSession) → client_of c [] ≡ Some s
    → record c { sent = 0; packets = 0; stage = 2; kind = 0; fault = 0; token_fault = 0 } ≡ value_of (with_stage s Reading) 0
unfolding plain_of
awaits c s held =
    let value = value_is c s held in
    rw (value.descriptor, value.size, value.mark, value.done, value.columns) refl

-- ---- Where it is read

mark_there : (m : Option Reset) → mark_from (mark_number m) ≡ Some m
unfolding mark_from
mark_there None = refl
mark_there (Some Full) = refl
mark_there (Some KeepTransaction) = refl

done_there : (m : FinalDone) → done_from (done_number m) ≡ Some m
unfolding done_from
done_there Awaited = refl
done_there Answered = refl
done_there Acknowledged = refl

reads_at : (p : StageParts) → stage_from p [] ≡ Reading → p ≡ stages.Reading
reads_at stages.Idle h = absurd cc
reads_at (stages.Sending kind packets) h = absurd cc
reads_at stages.Reading h = refl
reads_at stages.Cancelling h = absurd cc
reads_at (stages.Broken fault) h = absurd cc

given : (size : ℕ) (heard : Heard) (columns : Option ℕ) → size_from size ≡ Some size → columns_from (columns_number columns) ≡ Some columns
    → (let p : ClientParts = record { size = size; stage = stages.Reading; heard = heard; columns = columns } in client_of (plain_of p 0) [] ≡ Some (session_from p []))
unfolding client_of parts_from plain_of stage_from_number have_room
given size heard columns is are = rw (is, mark_there heard.mark, done_there heard.done, are) refl

-- the value of a client that reads and has heard this is that client
pub held_again : (c : TdsClient) (p : ClientParts) (heard : Heard) → client_of c [] ≡ Some (session_from p []) → stage_from p.stage [] ≡ Reading
    → client_of (plain_of (record p { heard = heard }) 0) [] ≡ Some (session_from (record p { heard = heard }) [])
held_again c p heard held reads =
    let value = value_is c (session_from p []) held in
    let size = subst (λ (n : ℕ). size_from n ≡ Some (parts_of (session_from p [])).size) (sym value.size) value.size_is in
    let columns = subst (λ (n : ℕ). columns_from n ≡ Some (parts_of (session_from p [])).columns) (sym value.columns) value.columns_are in
    subst (λ (x : StageParts). let q : ClientParts = record { size = p.size; stage = x; heard = heard; columns = p.columns } in client_of (plain_of q 0) [] ≡ Some (session_from q [])) (sym (reads_at p.stage reads))
    (given p.size heard p.columns size columns)
