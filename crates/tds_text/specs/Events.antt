-- Which event an array spells.
use Rattle.std.specs.Prelude.{ℕ, List, [], ◌∷◌, if◌then◌else◌, Option, Some, None, option_map, option_and_then, bytes_eq, codes}
use Rattle.serde_json.specs.Data.{Data, Items, no_items, item}
use Rattle.serde_json.specs.Find.{as_array, as_str}
use Rattle.tds_request.specs.declared.request.Request.TheVariants as request
use Rattle.tds_world.specs.declared.event.Event.{Event}
use Rattle.tds_world.specs.declared.event.Event.TheVariants as event
use Rattle.tds_text.specs.declared.schedule.version.Version.{Version}
use Rattle.tds_text.specs.declared.schedule.word.Word.{Word}
use Rattle.tds_text.specs.declared.schedule.word.Word.TheVariants as word
use Rattle.tds_text.specs.Fields.{alone, one_field, two_fields, number_of, isolation_of, batch_of, ended_lease, cleaned_one}

-- The words that an event's array begins with.
abbrev pub words : List (List ℕ × Word)
words =
    (codes "lease", word.Lease) ∷ (codes "resume", word.Resume) ∷ (codes "give_back", word.GiveBack) ∷ (codes "keep", word.Keep)
    ∷ (codes "abandon", word.Abandon) ∷ (codes "clean", word.Clean) ∷ (codes "batch", word.Batch) ∷ (codes "begin", word.Begin) ∷ (codes "commit", word.Commit)
    ∷ (codes "rollback", word.Rollback) ∷ (codes "send", word.Send) ∷ (codes "cancel", word.Cancel) ∷ (codes "work", word.Work)
    ∷ (codes "to_server", word.ToServer) ∷ (codes "to_client", word.ToClient) ∷ (codes "cut", word.Cut)
    ∷ (codes "restart_server", word.RestartServer) ∷ (codes "restart_client", word.RestartClient) ∷ []

-- The word of a text, in a table.
abbrev pub word_among : List (List ℕ × Word) → List ℕ → Option Word
word_among [] text = None
word_among (w ∷ ws) text = if bytes_eq text w.0 then Some w.1 else word_among ws text

-- The word of a text.
abbrev pub word_of : List ℕ → Option Word
word_of text = word_among words text

-- The event of a word and of what stands behind it: one line for each array of the format. The version says what may stand behind `commit` and `rollback`, and whether `clean` may stand there.
abbrev pub event_with : Version → Word → Items → Option Event
event_with version word.Lease fields = alone event.Lease fields
event_with version word.Resume fields = option_map (λ ticket. event.Resume ticket) (one_field number_of fields)
event_with version word.GiveBack fields = option_map (λ lease. event.GiveBack lease) (one_field number_of fields)
event_with version word.Keep fields = option_map (λ lease. event.Keep lease) (one_field number_of fields)
event_with version word.Abandon fields = option_map (λ ticket. event.Abandon ticket) (one_field number_of fields)
event_with version word.Clean fields = option_map (λ conn. event.Clean conn) (cleaned_one version fields)
event_with version word.Batch fields = option_map (λ p. event.Ask p.0 (request.Batch p.1)) (two_fields number_of batch_of fields)
event_with version word.Begin fields = option_map (λ p. event.Ask p.0 (request.Begin p.1)) (two_fields number_of isolation_of fields)
event_with version word.Commit fields = option_map (λ p. event.Ask p.0 (request.Commit p.1)) (ended_lease version fields)
event_with version word.Rollback fields = option_map (λ p. event.Ask p.0 (request.Rollback p.1)) (ended_lease version fields)
event_with version word.Send fields = option_map (λ lease. event.Send lease) (one_field number_of fields)
event_with version word.Cancel fields = option_map (λ lease. event.Cancel lease) (one_field number_of fields)
event_with version word.Work fields = option_map (λ conn. event.Work conn) (one_field number_of fields)
event_with version word.ToServer fields = option_map (λ p. event.ToServer p.0 p.1) (two_fields number_of number_of fields)
event_with version word.ToClient fields = option_map (λ p. event.ToClient p.0 p.1) (two_fields number_of number_of fields)
event_with version word.Cut fields = option_map (λ conn. event.Cut conn) (one_field number_of fields)
event_with version word.RestartServer fields = alone event.RestartServer fields
event_with version word.RestartClient fields = alone event.RestartClient fields

-- The event of an array's values.
abbrev pub event_in : Version → Items → Option Event
event_in version no_items = None
event_in version (item first fields) = option_and_then (λ w. event_with version w fields) (option_and_then word_of (as_str first))

-- The event that a value spells.
abbrev pub event_of : Version → Data → Option Event
event_of version value = option_and_then (event_in version) (as_array value)
