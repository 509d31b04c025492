-- What goes on of a request's body: it is put by the client of the connection that its application holds, and waits there.
use Rattle.std.proofs.Common.{◌≡◌, ◌⊎◌, ◌∙◌, ◌++◌, ℕ, Bool, true, false, List, [], Option, Some, None, inl, inr, refl, sym, ap, subst, option_map, append_assoc}
use Rattle.std.specs.Prelude.{if◌then◌else◌, IsSome}
use Rattle.tds_packet.specs.declared.kind.Kind.{Kind}
use Rattle.tds_client.specs.declared.message.MessageKind.{MessageKind}
use Rattle.tds_client.specs.Session.{ClientSession}
use Rattle.tds_client.specs.Streams.{finished, opened, packets_are, put}
use Rattle.tds_service.specs.Table.{DoesAt, BeginsMessage}
use Rattle.tds_relay.specs.Reads.{waits_on}
use Rattle.tds_relay.specs.declared.application.Application.{Application}
use Rattle.tds_relay.specs.declared.state.Asking.{Asking}
use Rattle.tds_relay.specs.declared.state.Asking.TheVariants as asking
use Rattle.tds_relay.specs.declared.pool.Pool as pools
use Rattle.tds_relay.specs.declared.pool.Hold.{Hold}
use Rattle.tds_relay.specs.declared.link.Link.{Link}
use Rattle.tds_relay.specs.Asking.{waits_in, waits_of}
use Rattle.tds_relay.specs.Bodies.{ArePut, Asks, BeginsBody, Body, ClientPuts, Closed, Closes, Drifts, Going, Goes, Grows, Keeps, Kept, Refuses, Sends, Shuts, Spared, Starts, body_by, body_in, going, going_by, held_of}
use Rattle.tds_relay.specs.Pool as pool
use Rattle.tds_relay.specs.Pool.{Pool, Action, holder_does, find_key}
use Rattle.tds_relay.specs.Sparing as sparing
use Rattle.tds_relay.specs.Sparing.{StartsBehind}
use Rattle.tds_relay.specs.Ties.{Turns}
use Rattle.tds_relay.specs.Places.{is_closed, own_asking, own_held}
use Rattle.tds_relay.proofs.steps.Bodied.{by_asking}

-- ---- At the pool

holds_does : (d : Pool) (action : Action) (o : Option Hold) → (holder_does d action o).pool.holds ≡ d.holds
holds_does d action None = refl
holds_does d action (Some hold) = refl

-- nobody's hold changes by what an application does with its connection
pub holds_stay : (key : ℕ) (action : Action) (old new : Pool) (before after : List ℕ) → Turns (pool.Does key action) old new before after → new.holds ≡ old.holds
holds_stay key action old new before after t = ap (λ (d : Pool). d.holds) t.pool_is ∙ holds_does old action (find_key key old.holds)

-- a part of a message
pub puts_part : (more : List ℕ) (key : ℕ) (old new : pools.Pool) (before after : List ℕ) (hold : Hold) → find_key key old.holds.items ≡ Some hold → new.holds.items ≡ old.holds.items
    → DoesAt (λ (s : ClientSession). put s more) hold.lease old.service new.service before after → ClientPuts false more key old new before after
puts_part more key old new before after hold its same d = record {
  hold = hold;
  its = its;
  same = same;
  from = d.session;
  to = d.next;
  moves = d.moves;
  out = d.does.0;
  put_is = d.does.1;
  appended = d.does.2;
}

-- and its end
pub puts_last : (more : List ℕ) (key : ℕ) (old mid new : pools.Pool) (before between after : List ℕ) (next : Hold) → (p : ClientPuts false more key old mid before between) → find_key key mid.holds.items ≡ Some next
    → new.holds.items ≡ mid.holds.items → DoesAt finished next.lease mid.service new.service between after → ClientPuts true more key old new before after
puts_last more key old mid new before between after next p its same d =
    let one : next ≡ p.hold = (let u : Some next ≡ Some p.hold = sym its ∙ ap (find_key key) p.same ∙ p.its in cc) in
    let e : DoesAt finished p.hold.lease mid.service new.service between after = subst (λ (h : Hold). DoesAt finished h.lease mid.service new.service between after) one d in
    let client : e.session ≡ p.to = (let u : Some e.session ≡ Some p.to = sym e.moves.was ∙ p.moves.is in cc) in
    record {
      hold = p.hold;
      its = p.its;
      same = same ∙ p.same;
      from = p.from;
      to = e.next;
      moves = record { was = p.moves.was; is = e.moves.is };
      out = p.out ++ e.does.0;
      put_is = (p.out, e.does.0, p.to, refl, p.put_is, ap finished (sym client) ∙ e.does.1);
      appended = e.does.2 ∙ ap (λ (xs : List ℕ). xs ++ e.does.0) p.appended ∙ append_assoc before p.out e.does.0;
    }

-- ---- And what goes out waits on its connection

grows_by : (whole : Bool) (more : List ℕ) (number : ℕ) (from to : ClientSession) (out : List ℕ) (had : Option (List ℕ)) → ArePut whole more from to out
    → Grows whole more (going_by number (Some from) had) (going_by number (Some to) (option_map (λ (waits : List ℕ). waits ++ out) had))
grows_by whole more number from to out None put = Drifts
grows_by whole more number from to out (Some waits) put = Sends waits out from put

pub grows_on : (whole : Bool) (more : List ℕ) (key : ℕ) (old new : pools.Pool) (after : List ℕ) (ls ms : List Link) (hold : Hold) → find_key key old.holds.items ≡ Some hold → ClientPuts whole more key old new [] after
    → waits_on hold.number ms ≡ option_map (λ (waits : List ℕ). waits ++ after) (waits_on hold.number ls) → Grows whole more (going old.service ls (find_key key old.holds.items)) (going new.service ms (find_key key new.holds.items))
grows_on whole more key old new after ls ms hold its p waits =
    let one : hold ≡ p.hold = (let u : Some hold ≡ Some p.hold = sym its ∙ p.its in cc) in
    let waits_is : waits_on p.hold.number ms ≡ option_map (λ (xs : List ℕ). xs ++ p.out) (waits_on p.hold.number ls) =
    subst (λ (h : Hold). waits_on h.number ms ≡ option_map (λ (xs : List ℕ). xs ++ p.out) (waits_on h.number ls)) one
    (waits ∙ ap (λ (out : List ℕ). option_map (λ (xs : List ℕ). xs ++ out) (waits_on hold.number ls)) p.appended) in
    let was : going old.service ls (find_key key old.holds.items) ≡ going_by p.hold.number (Some p.from) (waits_on p.hold.number ls) =
    ap (going old.service ls) p.its ∙ ap (λ (o : Option ClientSession). going_by p.hold.number o (waits_on p.hold.number ls)) p.moves.was in
    let is : going new.service ms (find_key key new.holds.items) ≡ going_by p.hold.number (Some p.to) (option_map (λ (xs : List ℕ). xs ++ p.out) (waits_on p.hold.number ls)) =
    ap (λ (hs : List Hold). going new.service ms (find_key key hs)) p.same ∙ ap (going new.service ms) p.its
    ∙ ap (λ (o : Option ClientSession). going_by p.hold.number o (waits_on p.hold.number ms)) p.moves.is ∙ ap (going_by p.hold.number (Some p.to)) waits_is in
    subst (λ (b : Body). Grows whole more b (going new.service ms (find_key key new.holds.items))) (sym was)
    (subst (Grows whole more (going_by p.hold.number (Some p.from) (waits_on p.hold.number ls))) (sym is) (grows_by whole more p.hold.number p.from p.to p.out (waits_on p.hold.number ls) p.put_is))

-- ---- Of an application whose request goes on

asked_by : (whole : Bool) (more : List ℕ) (over : Bool) (a b : Body) → Grows whole more a b → Grows whole more a (if over then Closed else b)
asked_by whole more true a b g = Shuts
asked_by whole more false a b g = g

both_by : (whole : Bool) (more : List ℕ) (over : Bool) (a b : Body) → Grows whole more a b → Grows whole more (if over then Closed else a) (if over then Closed else b)
both_by whole more true a b g = Shuts
both_by whole more false a b g = g

asked_is : (a : Application) (goes : Body) → (is_closed a ≡ false → own_asking a ≡ asking.Goes) → body_in (Some a) goes ≡ (if is_closed a then Closed else goes)
asked_is a goes is = by_asking (is_closed a) (own_asking a) asking.Goes (own_held a) goes is

-- it was asked just before
pub grows_asked : (whole : Bool) (more : List ℕ) (o n : Option Application) (g h : Body) (b : Application) → o ≡ Some b → (is_closed b ≡ false → own_asking b ≡ asking.Goes)
    → (body_in n h ≡ Closed) ⊎ (((goes : Body) → body_in n goes ≡ body_in o goes) × Grows whole more g h) → Grows whole more g (body_in n h)
grows_asked whole more o n g h b is asked (inl shut) = subst (Grows whole more g) (sym shut) Shuts
grows_asked whole more o n g h b is asked (inr (same, grows)) =
    subst (Grows whole more g) (sym (same h ∙ ap (λ (x : Option Application). body_in x h) is ∙ asked_is b h asked)) (asked_by whole more (is_closed b) g h grows)

-- it goes on
pub grows_going : (whole : Bool) (more : List ℕ) (o m n : Option Application) (f g h : Body) (a b : Application) → Some a ≡ m → o ≡ Some b → own_asking a ≡ asking.Goes → own_asking b ≡ asking.Goes → is_closed b ≡ is_closed a → f ≡ g
    → (body_in n h ≡ Closed) ⊎ (((goes : Body) → body_in n goes ≡ body_in o goes) × Grows whole more g h) → Grows whole more (body_in m f) (body_in n h)
grows_going whole more o m n f g h a b there is asks asked over same_goes (inl shut) = subst (Grows whole more (body_in m f)) (sym shut) Shuts
grows_going whole more o m n f g h a b there is asks asked over same_goes (inr (same, grows)) =
    let was : body_in m f ≡ (if is_closed b then Closed else g) =
    ap (λ (x : Option Application). body_in x f) (sym there) ∙ asked_is a f (λ here. asks) ∙ ap (λ (x : Body). if is_closed a then Closed else x) same_goes ∙ ap (λ (x : Bool). if x then Closed else g) (sym over) in
    let now : body_in n h ≡ (if is_closed b then Closed else h) = same h ∙ ap (λ (x : Option Application). body_in x h) is ∙ asked_is b h (λ here. asked) in
    subst (λ (x : Body). Grows whole more x (body_in n h)) (sym was)
    (subst (Grows whole more (if is_closed b then Closed else g)) (sym now) (both_by whole more (is_closed b) g h grows))

-- ---- It waits

kept_by : (over : Bool) (kind : MessageKind) (bytes more : List ℕ) (was whole : Bool) → Grows whole more (if over then Closed else Kept kind bytes was) (if over then Closed else Kept kind (bytes ++ more) whole)
kept_by true kind bytes more was whole = Shuts
kept_by false kind bytes more was whole = Keeps

pub waits_is : (a : Application) (goes : Body) (kind : MessageKind) (whole : Bool) → own_asking a ≡ asking.Waits kind whole → body_in (Some a) goes ≡ (if is_closed a then Closed else Kept kind (own_held a) whole)
waits_is a goes kind whole is = ap (λ (x : Asking). if is_closed a then Closed else body_by x (own_held a) goes) is

-- with these bytes behind the others
pub grows_kept : (whole : Bool) (more : List ℕ) (m n : Option Application) (g h : Body) (a b : Application) (kind : MessageKind) (was : Bool) → Some a ≡ m → n ≡ Some b → own_asking a ≡ asking.Waits kind was → own_asking b ≡ asking.Waits kind whole
    → is_closed b ≡ is_closed a → own_held b ≡ own_held a ++ more → Grows whole more (body_in m g) (body_in n h)
grows_kept whole more m n g h a b kind was there is asks asked over held =
    let from : body_in m g ≡ (if is_closed a then Closed else Kept kind (own_held a) was) = ap (λ (x : Option Application). body_in x g) (sym there) ∙ waits_is a g kind was asks in
    let to : body_in n h ≡ (if is_closed a then Closed else Kept kind (own_held a ++ more) whole) =
    ap (λ (x : Option Application). body_in x h) is ∙ waits_is b h kind whole asked ∙ ap (λ (x : Bool). if x then Closed else Kept kind (own_held b) whole) over
    ∙ ap (λ (xs : List ℕ). if is_closed a then Closed else Kept kind xs whole) held in
    subst (λ (x : Body). Grows whole more x (body_in n h)) (sym from)
    (subst (Grows whole more (if is_closed a then Closed else Kept kind (own_held a) was)) (sym to) (kept_by (is_closed a) kind (own_held a) more was whole))

begun_by : (over : Bool) (kind : Kind) (message : MessageKind) → packets_are message ≡ kind → BeginsBody kind (if over then Closed else Kept message [] false)
begun_by true kind message is = Refuses
begun_by false kind message is = Asks message is

-- with nothing of it yet
pub begun : (n : Option Application) (h : Body) (b : Application) (kind : Kind) (message : MessageKind) → n ≡ Some b → own_asking b ≡ asking.Waits message false → own_held b ≡ [] → packets_are message ≡ kind → BeginsBody kind (body_in n h)
begun n h b kind message is asked held packets =
    subst (BeginsBody kind) (sym (ap (λ (x : Option Application). body_in x h) is ∙ waits_is b h message false asked ∙ ap (λ (xs : List ℕ). if is_closed b then Closed else Kept message xs false) held)) (begun_by (is_closed b) kind message packets)

-- wherever it would go on
waits_by : (x : Asking) (whole : Bool) (held : List ℕ) (g h : Body) → waits_in x ≡ Some whole → body_by x held g ≡ body_by x held h
waits_by asking.Nothing whole held g h e = refl
waits_by (asking.Waits kind was) whole held g h e = refl
waits_by asking.Goes whole held g h e = absurd (let u : ⊥ = cc in u)

pub waits_any : (o : Option Application) (whole : Bool) (g h : Body) → waits_of o ≡ Some whole → body_in o g ≡ body_in o h
waits_any None whole g h e = refl
waits_any (Some a) whole g h e = ap (λ (x : Body). if is_closed a then Closed else x) (waits_by (own_asking a) whole (own_held a) g h e)

pub waits_spared : (m n : Option Application) (whole : Bool) (g h x : Body) → waits_of m ≡ Some whole → Spared (body_in m h) (body_in n h) → x ≡ body_in n h → Spared (body_in m g) x
waits_spared m n whole g h x e spared is = subst (λ (b : Body). Spared b x) (waits_any m whole h g e) (subst (Spared (body_in m h)) (sym is) spared)

pub waits_from : (m n : Option Application) (whole : Bool) (g h x : Body) → waits_of m ≡ Some whole → n ≡ m → Starts (body_in n h) x → Starts (body_in m g) x
waits_from m n whole g h x e same s = subst (λ (b : Body). Starts b x) (ap (λ (o : Option Application). body_in o h) same ∙ waits_any m whole h g e) s

-- as it is kept
pub kept_at : (m : Option Application) (g : Body) (a : Application) (kind : MessageKind) (whole : Bool) → Some a ≡ m → is_closed a ≡ false → own_asking a ≡ asking.Waits kind whole → body_in m g ≡ Kept kind (held_of m) whole
kept_at m g a kind whole there here asks =
    ap (λ (x : Option Application). body_in x g) (sym there) ∙ waits_is a g kind whole asks ∙ ap (λ (x : Bool). if x then Closed else Kept kind (own_held a) whole) here
    ∙ ap (λ (x : Option Application). Kept kind (held_of x) whole) there

-- ---- It starts

starts_as : (whole : Bool) (held : List ℕ) (kind : MessageKind) (number : ℕ) (from : ClientSession) (waits : List ℕ) (b : Body) → Grows whole held (Going number (opened from kind) waits) b → Starts (Kept kind held whole) b
starts_as whole held kind number from waits b (Sends ws out client put) = Goes ws out from put
starts_as whole held kind number from waits b Shuts = Closes

starts_by : (whole : Bool) (held : List ℕ) (kind : MessageKind) (number : ℕ) (from : ClientSession) (had : Option (List ℕ)) (waits : List ℕ) (b : Body) → had ≡ Some waits
    → Grows whole held (going_by number (Some (opened from kind)) had) b → Starts (Kept kind held whole) b
starts_by whole held kind number from had waits b there g = starts_as whole held kind number from waits b (subst (λ (o : Option (List ℕ)). Grows whole held (going_by number (Some (opened from kind)) o) b) there g)

pub starts_on : (whole : Bool) (held : List ℕ) (kind : MessageKind) (key : ℕ) (old new : pools.Pool) (ls : List Link) (hold : Hold) (waits : List ℕ) (b : Body) → find_key key old.holds.items ≡ Some hold → new.holds.items ≡ old.holds.items
    → BeginsMessage kind hold.lease old.service new.service → waits_on hold.number ls ≡ Some waits → Grows whole held (going new.service ls (find_key key new.holds.items)) b → Starts (Kept kind held whole) b
starts_on whole held kind key old new ls hold waits b its same o there g =
    let is : going new.service ls (find_key key new.holds.items) ≡ going_by hold.number (Some (opened o.0 kind)) (waits_on hold.number ls) =
    ap (λ (hs : List Hold). going new.service ls (find_key key hs)) same ∙ ap (going new.service ls) its ∙ ap (λ (c : Option ClientSession). going_by hold.number c (waits_on hold.number ls)) o.1.is in
    starts_by whole held kind hold.number o.0 (waits_on hold.number ls) waits b there (subst (λ (x : Body). Grows whole held x b) is g)

-- ---- What waits

pub waits_behind : (n : ℕ) (ms ks ls : List Link) (outbox after : List ℕ) → waits_on n ms ≡ option_map (λ (waits : List ℕ). waits ++ outbox) (waits_on n ks) → ks ≡ ls → outbox ≡ after
    → waits_on n ms ≡ option_map (λ (waits : List ℕ). waits ++ after) (waits_on n ls)
waits_behind n ms ks ls outbox after e links out =
    e ∙ ap (λ (xs : List Link). option_map (λ (waits : List ℕ). waits ++ outbox) (waits_on n xs)) links
    ∙ ap (λ (ys : List ℕ). option_map (λ (waits : List ℕ). waits ++ ys) (waits_on n ls)) out

some_of : (o : Option (List ℕ)) → IsSome o → (waits : List ℕ) × (o ≡ Some waits)
some_of None is = absurd (let u : ⊥ = cc in u)
some_of (Some waits) is = (waits, refl)

pub starts_there : (whole : Bool) (held : List ℕ) (kind : MessageKind) (key : ℕ) (old new : pools.Pool) (ls : List Link) (hold its : Hold) (b : Body) → find_key key old.holds.items ≡ Some hold → find_key key old.holds.items ≡ Some its
    → new.holds.items ≡ old.holds.items → BeginsMessage kind hold.lease old.service new.service → IsSome (waits_on its.number ls) → Grows whole held (going new.service ls (find_key key new.holds.items)) b → Starts (Kept kind held whole) b
starts_there whole held kind key old new ls hold its b one two same o there g =
    let alike : its ≡ hold = (let u : Some its ≡ Some hold = sym two ∙ one in cc) in
    let waits = some_of (waits_on hold.number ls) (subst (λ (h : Hold). IsSome (waits_on h.number ls)) alike there) in
    starts_on whole held kind key old new ls hold waits.0 b one same o waits.1 g

-- ---- Behind what waits there

behind_as : (waited : Option (List ℕ)) (whole : Bool) (held : List ℕ) (kind : MessageKind) (number : ℕ) (from : ClientSession) (waits : List ℕ) (b : Body) → waited ≡ Some waits → Grows whole held (Going number (opened from kind) waits) b
    → StartsBehind waited (Kept kind held whole) b
behind_as waited whole held kind number from waits b is (Sends ws out client put) = sparing.Goes ws out from is put
behind_as waited whole held kind number from waits b is Shuts = sparing.Closes

behind_by : (whole : Bool) (held : List ℕ) (kind : MessageKind) (number : ℕ) (from : ClientSession) (had : Option (List ℕ)) (waits : List ℕ) (b : Body) → had ≡ Some waits
    → Grows whole held (going_by number (Some (opened from kind)) had) b → StartsBehind had (Kept kind held whole) b
behind_by whole held kind number from had waits b there g = behind_as had whole held kind number from waits b there (subst (λ (o : Option (List ℕ)). Grows whole held (going_by number (Some (opened from kind)) o) b) there g)

pub behind_there : (whole : Bool) (held : List ℕ) (kind : MessageKind) (key : ℕ) (old new : pools.Pool) (ls : List Link) (hold its own : Hold) (b : Body) → find_key key old.holds.items ≡ Some hold → find_key key old.holds.items ≡ Some its
    → find_key key old.holds.items ≡ Some own → new.holds.items ≡ old.holds.items → BeginsMessage kind hold.lease old.service new.service → IsSome (waits_on its.number ls)
    → Grows whole held (going new.service ls (find_key key new.holds.items)) b → StartsBehind (waits_on own.number ls) (Kept kind held whole) b
behind_there whole held kind key old new ls hold its own b one two three same o there g =
    let proper : hold ≡ own = (let u : Some hold ≡ Some own = sym one ∙ three in cc) in
    let alike : its ≡ hold = (let u : Some its ≡ Some hold = sym two ∙ one in cc) in
    let waits = some_of (waits_on hold.number ls) (subst (λ (h : Hold). IsSome (waits_on h.number ls)) alike there) in
    let is : going new.service ls (find_key key new.holds.items) ≡ going_by hold.number (Some (opened o.0 kind)) (waits_on hold.number ls) =
    ap (λ (hs : List Hold). going new.service ls (find_key key hs)) same ∙ ap (going new.service ls) one ∙ ap (λ (c : Option ClientSession). going_by hold.number c (waits_on hold.number ls)) o.1.is in
    subst (λ (h : Hold). StartsBehind (waits_on h.number ls) (Kept kind held whole) b) proper
    (behind_by whole held kind hold.number o.0 (waits_on hold.number ls) waits.0 b waits.1 (subst (λ (x : Body). Grows whole held x b) is g))

-- where it is to be closed
pub behind_closed : (waited : Option (List ℕ)) (a b : Body) → b ≡ Closed → StartsBehind waited a b
behind_closed waited a b shut = subst (StartsBehind waited a) (sym shut) sparing.Closes

pub grows_then : (whole : Bool) (more : List ℕ) (old mid new : Body) → Starts mid new → Grows whole more old mid → (b : Body) × Grows whole more old b × Starts b new
grows_then whole more old mid new s g = (mid, g, s)
