-- What a client makes of all the bytes that ever came to it: the tokens that its callers were given.
use Rattle.std.proofs.Common.{◌≡◌, ◌∙◌, ℕ, Bool, true, false, List, [], ◌∷◌, ◌++◌, ap, refl, subst, sym, Option, Some, None, Result, Ok, Err, append_assoc, append-nil}
use Rattle.tds_client.specs.declared.fault.ClientFault.{ClientFault}
use Rattle.tds_client.specs.declared.heard.Heard.{Heard}
use Rattle.tds_client.specs.declared.heard.FinalDone.{FinalDone}
use Rattle.tds_client.specs.declared.heard.FinalDone.TheVariants.{Awaited, Answered, Acknowledged}
use Rattle.tds_client.specs.Hearing.{◌>>=◌}
use Rattle.tds_client.specs.Session.{ClientSession, Stage, Idle, Sending, Reading, Cancelling, Broken}
use Rattle.tds_client.specs.Taking.{ClientMove, read, skipped, skipped_to_end, taken, taken_in, taken_reading, taken_cancelling}
use Rattle.tds_packet.specs.Layout.{bits_of, has_bit}
use Rattle.tds_packet.specs.Reading as reader
use Rattle.tds_token.specs.declared.token.Token.{Token}
use Rattle.tds_token.specs.Contents.{contents_of}
use Rattle.tds_token.specs.Told.{told}
use Rattle.tds_world.specs.declared.report.RequestStatus.{RequestStatus}
use Rattle.tds_ends.specs.AllBytes.{AreSomeOf, AreToldBy, ClientHasRead, ClientReads, HasRead, columns_after, columns_by, told_by}
use Rattle.tds_ends.specs.declared.listening.ClientFed.{ClientFed}
use Rattle.tds_ends.specs.declared.listening.ClientStop.{ClientStop}
use Rattle.tds_ends.specs.declared.listening.ClientStop.TheVariants.{Packet, Client, NoMemory}
use Rattle.tds_ends.specs.Ends.{Feeds, IsClientAt, Listens, client_stops}
use Rattle.tds_ends.specs.Feeding.{Coming, Listened, listened, on_taken, settled_by}
use Rattle.tds_ends.proofs.AllBytes.{drained, met_fault, whole_then}
use Rattle.tds_ends.proofs.SomeOf.{all_of, none_of, some_of_both}

-- ---- A packet

-- The tokens that it tells are some of those that it spells, and the columns behind it are theirs.
record TellsSome (s : ClientSession) (ends : Bool) (bytes : List ℕ) (t : ClientMove) : Type 0 where
  pub columns : t.session.columns ≡ columns_by ends (contents_of s.columns bytes).columns
  pub some : AreSomeOf t.tokens (told (contents_of s.columns bytes).tokens)

read_tells : (s : ClientSession) (ends : Bool) (heard : Heard) (bytes : List ℕ) → TellsSome s ends bytes (read s ends heard (contents_of s.columns bytes))
read_tells s false heard bytes = record { columns = refl; some = all_of (told (contents_of s.columns bytes).tokens) }
read_tells s true heard bytes = record { columns = refl; some = all_of (told (contents_of s.columns bytes).tokens) }

skipped_end_tells : (s : ClientSession) (heard : Heard) (done : FinalDone) (bytes : List ℕ) → TellsSome s true bytes (skipped_to_end s heard done)
skipped_end_tells s heard Awaited bytes = record { columns = refl; some = none_of (told (contents_of s.columns bytes).tokens) }
skipped_end_tells s heard Answered bytes = record { columns = refl; some = none_of (told (contents_of s.columns bytes).tokens) }
skipped_end_tells s heard Acknowledged bytes = record { columns = refl; some = none_of (told (contents_of s.columns bytes).tokens) }

skipped_tells : (s : ClientSession) (ends : Bool) (heard : Heard) (bytes : List ℕ) → TellsSome s ends bytes (skipped s ends heard (contents_of s.columns bytes))
skipped_tells s false heard bytes = record { columns = refl; some = none_of (told (contents_of s.columns bytes).tokens) }
skipped_tells s true heard bytes = skipped_end_tells s heard heard.done bytes

by_bind : (P : ClientMove → Type 0) (found : Result Heard ClientFault) (f : Heard → ClientMove) (t : ClientMove) → ((h : Heard) → P (f h)) → (found >>= λ h. Ok (f h)) ≡ Ok t → P t
by_bind P (Ok h) f t each is = let same : f h ≡ t = cc in subst P same (each h)
by_bind P (Err e) f t each is = absurd (cc)

reading_tells : (s : ClientSession) (ends : Bool) (bytes : List ℕ) (t : ClientMove) → taken_reading s ends bytes ≡ Ok t → TellsSome s ends bytes t
unfolding taken_reading
reading_tells s ends bytes t is =
    by_bind (TellsSome s ends bytes) _ (λ heard. read s ends heard (contents_of s.columns bytes)) t (λ heard. read_tells s ends heard bytes) is

cancelling_tells : (s : ClientSession) (ends : Bool) (bytes : List ℕ) (t : ClientMove) → taken_cancelling s ends bytes ≡ Ok t → TellsSome s ends bytes t
unfolding taken_cancelling
cancelling_tells s ends bytes t is =
    by_bind (TellsSome s ends bytes) _ (λ heard. skipped s ends heard (contents_of s.columns bytes)) t (λ heard. skipped_tells s ends heard bytes) is

packet_tells : (stage : Stage) (s : ClientSession) (ends : Bool) (bytes : List ℕ) (t : ClientMove) → taken_in stage s ends bytes ≡ Ok t → TellsSome s ends bytes t
packet_tells Idle s ends bytes t is = absurd (cc)
packet_tells (Sending kind left packets) s ends bytes t is = absurd (cc)
packet_tells Reading s ends bytes t is = reading_tells s ends bytes t is
packet_tells Cancelling s ends bytes t is = cancelling_tells s ends bytes t is
packet_tells (Broken fault) s ends bytes t is = absurd (cc)

-- ---- Packets

record TellSome (columns : Option ℕ) (before : List Token) (ps : List Coming) (then : Listened) : Type 0 where
  pub more : List Token
  pub is : then.told ≡ before ++ more
  pub some : AreSomeOf more (told_by columns ps)
  pub columns_are : then.session.columns ≡ columns_after columns ps

by_taken : (P : Type 0) (found : Result ClientMove ClientFault) (next : ClientMove → Option Listened) (then : Listened) → ((t : ClientMove) → found ≡ Ok t → next t ≡ Some then → P) → on_taken found next ≡ Some then → P
by_taken P (Ok t) next then later is = later t refl is
by_taken P (Err fault) next then later is = absurd (cc)

packets_tell : (s : ClientSession) (settled : Option RequestStatus) (before : List Token) (ps : List Coming) (then : Listened) → listened s settled before ps ≡ Some then → TellSome s.columns before ps then
packets_tell s settled before [] then is =
    let same : record { session = s; settled = settled; told = before } ≡ then = cc in
    record {
      more = [];
      is = ap (λ (t : Listened). t.told) (sym same) ∙ sym (append-nil before);
      some = refl;
      columns_are = ap (λ (t : Listened). t.session.columns) (sym same);
    }
packets_tell s settled before (p ∷ ps) then is =
    let ends : Bool = has_bit (bits_of p.header.status) 1 in
    by_taken (TellSome s.columns before (p ∷ ps) then) (taken s ends p.content) _ then
    (λ t found later.
    let one : TellsSome s ends p.content t = packet_tells s.stage s ends p.content t found in
    let rest : TellSome (columns_by ends (contents_of s.columns p.content).columns) (before ++ t.tokens) ps then =
    subst (λ (o : Option ℕ). TellSome o (before ++ t.tokens) ps then) one.columns (packets_tell t.session (settled_by t.answer settled) (before ++ t.tokens) ps then later) in
    record {
      more = t.tokens ++ rest.more;
      is = rest.is ∙ append_assoc before t.tokens rest.more;
      some = some_of_both t.tokens (told (contents_of s.columns p.content).tokens) rest.more (told_by (columns_by ends (contents_of s.columns p.content).columns) ps) one.some rest.some;
      columns_are = rest.columns_are;
    })
    is

-- ---- All bytes

told_and : (columns : Option ℕ) (ps qs : List Coming) → told_by columns (ps ++ qs) ≡ told_by columns ps ++ told_by (columns_after columns ps) qs
told_and columns [] qs = refl
told_and columns (p ∷ ps) qs =
    let behind : Option ℕ = columns_by (has_bit (bits_of p.header.status) 1) (contents_of columns p.content).columns in
    ap (λ (ts : List Token). told (contents_of columns p.content).tokens ++ ts) (told_and behind ps qs)
    ∙ sym (append_assoc (told (contents_of columns p.content).tokens) (told_by behind ps) (told_by (columns_after behind ps) qs))

columns_and : (columns : Option ℕ) (ps qs : List Coming) → columns_after columns (ps ++ qs) ≡ columns_after (columns_after columns ps) qs
columns_and columns [] qs = refl
columns_and columns (p ∷ ps) qs = columns_and (columns_by (has_bit (bits_of p.header.status) 1) (contents_of columns p.content).columns) ps qs

same_columns : (stop : Option ClientStop) (held : reader.Reading) (then now : ClientSession) → IsClientAt stop held then now → now.columns ≡ then.columns
same_columns None held then now is = ap (λ (s : ClientSession). s.columns) is
same_columns (Some (Packet fault)) held then now is = ap (λ (s : ClientSession). s.columns) is
same_columns (Some (Client fault)) held then now is = ap (λ (s : ClientSession). s.columns) is.4
same_columns (Some NoMemory) held then now is = ap (λ (s : ClientSession). s.columns) is

pub told_whole : (first now : reader.Reading) (columns : Option ℕ) (bytes : List ℕ) (given : List Token) → ClientHasRead first now columns bytes given → AreToldBy first bytes given
told_whole first now columns bytes given read = record { packets = read.packets; rest = now.taken; whole = read.read.whole; some = read.some }

by_stop : (stop : Option ClientStop) (first r new : reader.Reading) (bytes piece : List ℕ) (columns : Option ℕ) (given : List Token) (packets more : List Coming) (count : ℕ) (left : List ℕ)
    → HasRead first r bytes packets → Feeds r new piece count (client_stops stop) more left
    → columns ≡ columns_after None (packets ++ more) → AreSomeOf given (told_by None (packets ++ more))
    → ClientReads stop first new columns (bytes ++ piece) given
by_stop None first r new bytes piece columns given packets more count left read feeds known some = record {
  packets = packets ++ more;
  read = drained first r new bytes piece packets more count left read feeds;
  columns_are = known;
  some = some;
}
by_stop (Some (Packet fault)) first r new bytes piece columns given packets more count left read feeds known some = (
  met_fault first r new bytes piece packets more count left fault read feeds,
  record { packets = packets ++ more; rest = left; whole = whole_then first r new bytes piece packets more count _ left read feeds; some = some },
)
by_stop (Some (Client fault)) first r new bytes piece columns given packets more count left read feeds known some =
    record { packets = packets ++ more; rest = left; whole = whole_then first r new bytes piece packets more count _ left read feeds; some = some }
by_stop (Some NoMemory) first r new bytes piece columns given packets more count left read feeds known some = tt

pub client_reads : (first r new : reader.Reading) (piece bytes : List ℕ) (s now : ClientSession) (before after given : List Token) (fed : ClientFed)
    → ClientHasRead first r s.columns bytes (given ++ before) → Listens r new piece s now before after fed
    → ClientReads fed.stop first new now.columns (bytes ++ piece) (given ++ after)
client_reads first r new piece bytes s now before after given fed read l =
    let tell : TellSome s.columns before l.packets l.then = packets_tell s None before l.packets l.then l.listens in
    let known : columns_after s.columns l.packets ≡ columns_after None (read.packets ++ l.packets) =
    ap (λ (o : Option ℕ). columns_after o l.packets) read.columns_are ∙ sym (columns_and None read.packets l.packets) in
    let same : told_by None read.packets ++ told_by s.columns l.packets ≡ told_by None (read.packets ++ l.packets) =
    ap (λ (o : Option ℕ). told_by None read.packets ++ told_by o l.packets) read.columns_are ∙ sym (told_and None read.packets l.packets) in
    let all : given ++ after ≡ (given ++ before) ++ tell.more =
    ap (λ (ts : List Token). given ++ ts) (l.tells ∙ tell.is) ∙ sym (append_assoc given before tell.more) in
    by_stop fed.stop first r new bytes piece now.columns (given ++ after) read.packets l.packets fed.count l.left read.read l.feeds
    (same_columns fed.stop new l.then.session now l.client ∙ tell.columns_are ∙ known)
    (subst (λ (ts : List Token). AreSomeOf ts (told_by None (read.packets ++ l.packets))) (sym all)
    (subst (AreSomeOf ((given ++ before) ++ tell.more)) same
    (some_of_both (given ++ before) (told_by None read.packets) tell.more (told_by s.columns l.packets) read.some tell.some)))
