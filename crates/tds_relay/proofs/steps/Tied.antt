-- The body of an application's request is Closed just as its end is over.
use Rattle.std.proofs.Common.{◌≡◌, ◌∙◌, ℕ, Bool, true, false, List, Option, Some, None, inl, inr, sym, subst, option_map, if◌then◌else◌}
use Rattle.slab.specs.Slab.{Slab, get}
use Rattle.tds_client.specs.Session.{ClientSession}
use Rattle.tds_front.specs.declared.fault.FrontFault.{FrontFault}
use Rattle.tds_service.specs.declared.service.Service as services
use Rattle.tds_service.specs.Table.{client_of}
use Rattle.tds_relay.specs.declared.application.Application.{Application}
use Rattle.tds_relay.specs.declared.state.Asking.{Asking}
use Rattle.tds_relay.specs.declared.state.Asking.TheVariants as asking
use Rattle.tds_relay.specs.declared.pool.Hold.{Hold}
use Rattle.tds_relay.specs.declared.link.Link.{Link}
use Rattle.tds_relay.specs.declared.relay.Relay as code
use Rattle.tds_relay.specs.Bodies.{AskOn, Astray, Body, Closed, Going, IsClosedAsEnd, Kept, Nowhere, Spared, body_by, body_in, body_of, going, going_by, going_of}
use Rattle.tds_relay.specs.Pool.{find_key}
use Rattle.tds_relay.specs.Fronts.{own_end, ends_in}
use Rattle.tds_relay.specs.Core.{End, EndList, Open, Over, end_at}
use Rattle.tds_relay.specs.Reads.{waits_on}
use Rattle.tds_relay.specs.Taking.{IsDeaf}
use Rattle.tds_relay.proofs.steps.Bodied.{shut}
use Rattle.tds_relay.proofs.steps.Fronts.{end_is}
use Rattle.tds_relay.specs.Places.{is_closed, own_asking, own_fault, own_held, own_reset, took_back}

-- where it is over it may be
pub closed_deaf : (end : Option End) (b : Body) → IsDeaf end → IsClosedAsEnd end b
closed_deaf end Closed deaf = deaf
closed_deaf end Nowhere deaf = tt
closed_deaf end (Kept kind bytes whole) deaf = tt
closed_deaf end Astray deaf = tt
closed_deaf end (Going number client waits) deaf = tt

-- ---- In a relay

going_tied : (end : Option End) (number : ℕ) (o : Option ClientSession) (waits : Option (List ℕ)) → IsClosedAsEnd end (going_by number o waits)
going_tied end number None waits = tt
going_tied end number (Some client) None = tt
going_tied end number (Some client) (Some bytes) = tt

-- what goes on isn't Closed
pub goes_tied : (end : Option End) (s : services.Service) (ls : List Link) (o : Option Hold) → IsClosedAsEnd end (going s ls o)
goes_tied end s ls None = tt
goes_tied end s ls (Some h) = going_tied end h.number (client_of h.lease s) (waits_on h.number ls)

asked_tied : (end : Option End) (a : Asking) (held : List ℕ) (goes : Body) → IsClosedAsEnd end goes → IsClosedAsEnd end (body_by a held goes)
asked_tied end asking.Nothing held goes t = tt
asked_tied end (asking.Waits kind whole) held goes t = tt
asked_tied end asking.Goes held goes t = t

over_tied : (why : Option FrontFault) (over : Bool) (end : End) (x : Body) → IsClosedAsEnd (Some end) x → IsClosedAsEnd (Some (if over then Over why else end)) (if over then Closed else x)
over_tied why true end x t = tt
over_tied why false end x t = t

in_tied : (o : Option Application) (goes : Body) → ((end : Option End) → IsClosedAsEnd end goes) → IsClosedAsEnd (option_map own_end o) (body_in o goes)
in_tied None goes t = tt
in_tied (Some a) goes t =
    let end : End = Open a.front (took_back a) (own_reset a) in
    over_tied (own_fault a) (is_closed a) end (body_by (own_asking a) (own_held a) goes) (asked_tied (Some end) (own_asking a) (own_held a) goes (t (Some end)))

pub slab_tied : (s : Slab Application) (key : ℕ) (goes : Body) → ((end : Option End) → IsClosedAsEnd end goes) → IsClosedAsEnd (end_at (ends_in s) key) (body_in (get s key) goes)
slab_tied s key goes t = subst (λ (o : Option End). IsClosedAsEnd o (body_in (get s key) goes)) (sym (end_is s key)) (in_tied (get s key) goes t)

pub relay_tied : (key : ℕ) (r : code.Relay) → IsClosedAsEnd (end_at (ends_in r.applications) key) (body_of key r)
relay_tied key r = slab_tied r.applications key (going_of key r) (λ end. goes_tied end r.pool.service r.links.items (find_key key r.pool.holds.items))

-- ---- Closed it stays

deaf_of : (key : ℕ) (r : code.Relay) → body_of key r ≡ Closed → IsDeaf (end_at (ends_in r.applications) key)
deaf_of key r e = subst (IsClosedAsEnd (end_at (ends_in r.applications) key)) e (relay_tied key r)

pub spared_closed : (a b : Body) → Spared a b → a ≡ Closed → b ≡ Closed
spared_closed a b (inl same) e = same ∙ e
spared_closed a b (inr shut) e = shut

-- where its end is as it was, wherever it goes,
pub closed_asks : (key : ℕ) (old mid : code.Relay) → ends_in mid.applications ≡ ends_in old.applications → body_of key old ≡ Closed → (goes : Body) → body_in (get mid.applications key) goes ≡ Closed
closed_asks key old mid ends e goes = shut mid.applications key goes (subst (λ (es : EndList). IsDeaf (end_at es key)) (sym ends) (deaf_of key old e))

-- and then all ask on
pub stays_closed : (key : ℕ) (old mid new : code.Relay) → ends_in mid.applications ≡ ends_in old.applications → AskOn mid.applications new.applications → body_of key old ≡ Closed → body_of key new ≡ Closed
stays_closed key old mid new ends asks e = spared_closed (body_in (get mid.applications key) (going_of key new)) (body_of key new) (asks key (going_of key new)) (closed_asks key old mid ends e (going_of key new))
