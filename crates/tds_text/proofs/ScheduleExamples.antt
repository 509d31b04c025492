-- JSON values and the schedules that they spell, computed.
use Rattle.std.specs.Prelude.{◌≡◌, refl, ℕ, ◌^◌, ◌-◌, negsuc, true, false, List, [], ◌∷◌, Some, None, codes}
use Rattle.std.specs.Str.{chars}
use Rattle.serde_json.specs.Data.{Data, null, boolean, string, number, array, object, unsigned, negative, Items, no_items, item, no_members, member}
use Rattle.tds_request.specs.declared.request.Request.TheVariants as request
use Rattle.tds_world.specs.declared.event.Event.TheVariants as event
use Rattle.tds_session.specs.declared.attention.OnAttention.TheVariants.{Keep, RollBack}
use Rattle.tds_text.specs.declared.schedule.version.Version.TheVariants.{One, Two, Three, Four}
use Rattle.tds_text.specs.Events.{event_of}
use Rattle.tds_text.specs.Schedule.{outer_of, events_of, wrong_place}

-- the items of an array
abbrev values : List Data → Items
values [] = no_items
values (d ∷ ds) = item d (values ds)

-- an event's array: its word, and what stands behind it
abbrev called : List ℕ → List Data → Data
called word fields = array (item (string word) (values fields))

-- a whole number
abbrev whole : ℕ → Data
whole n = number (unsigned n)

-- a schedule's object with this version, packet size and these events; the members lie in the order of their keys
abbrev file : ℕ → ℕ → List Data → Data
file version size events = object (member (codes "events") (array (values events))
    (member (codes "max") (number (unsigned 1)) (member (codes "packet_size") (number (unsigned size)) (member (codes "version") (number (unsigned version)) no_members))))

-- a batch of three units, of which two are one character's
batch : event_of One (called (codes "batch") (whole 7 ∷ string (97 ∷ 240 ∷ 144 ∷ 141 ∷ 136 ∷ []) ∷ [])) ≡ Some (event.Ask 7 (request.Batch (97 ∷ 55296 ∷ 57160 ∷ [])))
unfolding chars
batch = refl

begin : event_of One (called (codes "begin") (whole 1 ∷ whole 5 ∷ [])) ≡ Some (event.Ask 1 (request.Begin 5))
begin = refl

-- isolation levels end with 5
begin_beyond : event_of One (called (codes "begin") (whole 1 ∷ whole 6 ∷ [])) ≡ None
begin_beyond = refl

to_client : event_of One (called (codes "to_client") (whole 3 ∷ whole (2 ^ 32 - 1) ∷ [])) ≡ Some (event.ToClient 3 (2 ^ 32 - 1))
to_client = refl

-- a number of 33 bits, a negative one, and a field too many
too_large : event_of One (called (codes "send") (whole (2 ^ 32) ∷ [])) ≡ None
too_large = refl

below_zero : event_of One (called (codes "send") (number (negative (negsuc 0)) ∷ [])) ≡ None
below_zero = refl

too_many : event_of One (called (codes "lease") (whole 1 ∷ [])) ≡ None
too_many = refl

-- a batch needs a text
empty_text : event_of One (called (codes "batch") (whole 1 ∷ string [] ∷ [])) ≡ None
unfolding chars
empty_text = refl

-- the first run
first_run : outer_of (file 1 512 []) ≡ Some (One, (record { packet_size = 512; max = 1; on_attention = Keep }, no_items))
first_run = refl

first_events : events_of One (values (called (codes "lease") [] ∷ called (codes "begin") (whole 1 ∷ whole 0 ∷ []) ∷ called (codes "send") (whole 1 ∷ [])
    ∷ called (codes "to_server") (whole 1 ∷ whole 34 ∷ []) ∷ called (codes "work") (whole 1 ∷ []) ∷ called (codes "to_client") (whole 1 ∷ whole 35 ∷ []) ∷ []))
    ≡ Some (event.Lease ∷ event.Ask 1 (request.Begin 0) ∷ event.Send 1 ∷ event.ToServer 1 34 ∷ event.Work 1 ∷ event.ToClient 1 35 ∷ [])
first_events = refl

-- the object is looked at first, then the events in order
wrong_version : wrong_place (file 5 512 (null ∷ [])) ≡ Some 0
wrong_version = refl

wrong_size : wrong_place (file 1 65536 []) ≡ Some 0
wrong_size = refl

wrong_third : wrong_place (file 1 512 (called (codes "lease") [] ∷ called (codes "restart_server") [] ∷ null ∷ called (codes "leases") [] ∷ [])) ≡ Some 3
wrong_third = refl

nothing_wrong : wrong_place (file 1 512 (called (codes "cut") (whole 1 ∷ []) ∷ [])) ≡ None
nothing_wrong = refl

-- ---- a commit that begins the next transaction

commit_then : Data
commit_then = called (codes "commit") (whole 1 ∷ whole 2 ∷ [])

anew : event_of Two commit_then ≡ Some (event.Ask 1 (request.Commit (Some 2)))
unfolding commit_then
anew = refl

not_anew : event_of Two (called (codes "rollback") (whole 1 ∷ [])) ≡ Some (event.Ask 1 (request.Rollback None))
not_anew = refl

anew_beyond : event_of Two (called (codes "rollback") (whole 1 ∷ whole 6 ∷ [])) ≡ None
anew_beyond = refl

-- it is an array of version 2 alone
anew_in_one : wrong_place (file 1 512 (called (codes "lease") [] ∷ commit_then ∷ [])) ≡ Some 2
unfolding commit_then
anew_in_one = refl

anew_in_two : wrong_place (file 2 512 (called (codes "lease") [] ∷ commit_then ∷ [])) ≡ None
unfolding commit_then
anew_in_two = refl

-- ---- what an attention does, in version 3

-- a schedule's object with a fifth member
abbrev file_with : ℕ → Data → List Data → Data
file_with version rollback events = object (member (codes "events") (array (values events)) (member (codes "max") (whole 1) (member (codes "packet_size") (whole 512)
    (member (codes "rollback_on_attention") rollback (member (codes "version") (whole version) no_members)))))

rolls_back : outer_of (file_with 3 (boolean true) []) ≡ Some (Three, (record { packet_size = 512; max = 1; on_attention = RollBack }, no_items))
rolls_back = refl

keeps : outer_of (file_with 3 (boolean false) []) ≡ Some (Three, (record { packet_size = 512; max = 1; on_attention = Keep }, no_items))
keeps = refl

-- it is a key of version 3 alone, must be there, and is no number
too_early : wrong_place (file_with 2 (boolean true) []) ≡ Some 0
too_early = refl

not_said : wrong_place (file 3 512 []) ≡ Some 0
not_said = refl

no_boolean : wrong_place (file_with 3 (whole 1) []) ≡ Some 0
no_boolean = refl

anew_in_three : wrong_place (file_with 3 (boolean true) (called (codes "lease") [] ∷ commit_then ∷ [])) ≡ None
unfolding commit_then
anew_in_three = refl

-- ---- a cleaning, in version 4

clean_one : Data
clean_one = called (codes "clean") (whole 1 ∷ [])

clean : event_of Four clean_one ≡ Some (event.Clean 1)
unfolding clean_one
clean = refl

-- it is an array of version 4 alone, and names one connection
clean_in_three : wrong_place (file_with 3 (boolean true) (called (codes "lease") [] ∷ clean_one ∷ [])) ≡ Some 2
unfolding clean_one
clean_in_three = refl

clean_in_four : wrong_place (file_with 4 (boolean true) (called (codes "lease") [] ∷ clean_one ∷ [])) ≡ None
unfolding clean_one
clean_in_four = refl

clean_too_large : event_of Four (called (codes "clean") (whole (2 ^ 32) ∷ [])) ≡ None
clean_too_large = refl

clean_none : event_of Four (called (codes "clean") []) ≡ None
clean_none = refl

-- its object is that of version 3
four : outer_of (file_with 4 (boolean false) []) ≡ Some (Four, (record { packet_size = 512; max = 1; on_attention = Keep }, no_items))
four = refl

four_without : wrong_place (file 4 512 []) ≡ Some 0
four_without = refl

anew_in_four : wrong_place (file_with 4 (boolean true) (called (codes "lease") [] ∷ commit_then ∷ [])) ≡ None
unfolding commit_then
anew_in_four = refl
