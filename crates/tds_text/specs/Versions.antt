-- The versions of schedule files: which keys and which arrays each has.
use Rattle.std.specs.Prelude.{ℕ, ◌==◌, Bool, true, false, if◌then◌else◌, Option, Some, None}
use Rattle.tds_text.specs.declared.schedule.version.Version.{Version}
use Rattle.tds_text.specs.declared.schedule.version.Version.TheVariants.{One, Two, Three, Four}

-- The version with this number.
abbrev pub version_numbered : ℕ → Option Version
version_numbered number = if number == 1 then Some One else if number == 2 then Some Two else if number == 3 then Some Three else if number == 4 then Some Four else None

-- How many keys its object has: `version`, `packet_size`, `max` and `events`, and from version 3 on
-- `rollback_on_attention`.
abbrev pub keys_of : Version → ℕ
keys_of One = 4
keys_of Two = 4
keys_of Three = 5
keys_of Four = 5

-- Whether a commit or rollback may begin the next transaction at once.
abbrev pub may_begin_anew : Version → Bool
may_begin_anew One = false
may_begin_anew Two = true
may_begin_anew Three = true
may_begin_anew Four = true

-- Whether a free connection may be cleaned.
abbrev pub may_clean : Version → Bool
may_clean One = false
may_clean Two = false
may_clean Three = false
may_clean Four = true
