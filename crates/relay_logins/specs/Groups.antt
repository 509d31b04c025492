-- Groups of applications that share connections, each with the login by which its connections log in.
use Rattle.std.specs.Prelude.{ℕ, ◌≡◌, ◌/◌, IsSome, Option, Some, None, Bool, true, false, List}
use Rattle.slab.specs.Slab.{Slab}
use Rattle.relay_logins.specs.Keys.{known}
use Rattle.relay_logins.specs.Session.{session_in}
use Rattle.relay_logins.specs.declared.table.Entry.{Entry}
use Rattle.relay_logins.specs.declared.groups.Group.{Group}

-- the LOGIN7 of a group's connections
abbrev pub login_in : {T : Type 0} → Option (Group T) → Option (List ℕ)
login_in None = None
login_in (Some group) = Some group.login.items

abbrev pub login_of : {T : Type 0} → Slab (Entry (Group T)) → ℕ → Option (List ℕ)
login_of groups key = login_in (known groups key)

-- a group may be joined by whoever has this login: its own says the same of its session
abbrev pub Admits : {T : Type 0} → Option (Group T) → List ℕ → Type 0
Admits None login = ⊥
Admits (Some group) login = (group.is_joined ≡ true) × (session_in group.login.items ≡ session_in login)

-- what else is known of a group
abbrev pub inner_in : {T : Type 0} → Option (Group T) → Option T
inner_in None = None
inner_in (Some group) = Some group.inner

-- whether others may join it
abbrev pub is_joined_in : {T : Type 0} → Option (Group T) → Bool
is_joined_in None = false
is_joined_in (Some group) = group.is_joined

-- the key is a group's that is there, and has this number
abbrev pub HasNumber : {T : Type 0} → Slab (Entry (Group T)) → ℕ → ℕ → Type 0
HasNumber groups number key = IsSome (known groups key) × (key / 16384 ≡ number)
