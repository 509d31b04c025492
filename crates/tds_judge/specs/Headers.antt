-- ALL_HEADERS of a request (MS-TDS 2.2.5.3), byte by byte: a total length in 4 bytes, and headers
-- in any order and number, each with its length in 4, its type in 2, and its data. A length counts
-- its own bytes too; numbers have their lowest byte first.
use Rattle.std.specs.Prelude.{ℕ, ◌+◌, ◌-◌, ◌*◌, ◌/◌, ◌==◌, ◌||◌, nat_lt, true, false, if◌then◌else◌}
use Rattle.tds_judge.specs.declared.headers.Field.{Field}
use Rattle.tds_judge.specs.declared.headers.Field.TheVariants as fields
use Rattle.tds_judge.specs.declared.headers.Headed.{Headed}
use Rattle.tds_judge.specs.declared.headers.Headed.TheVariants as read
use Rattle.tds_judge.specs.declared.headers.HeaderFault.{HeaderFault}
use Rattle.tds_judge.specs.declared.headers.HeaderFault.TheVariants as faults
use Rattle.tds_judge.specs.declared.headers.Heading.{Heading}

abbrev pub header_fault_number : HeaderFault → ℕ
header_fault_number faults.Length = 1
header_fault_number faults.NoTransaction = 2
header_fault_number faults.TwoTransactions = 3
header_fault_number faults.Kind = 4

abbrev pub new_heading : Heading
new_heading = record {
  field = fields.Total;
  left = 4;
  value = 0;
  total = 0;
  length = 0;
  named = false;
}

-- a field of so many bytes comes next
abbrev pub at_field : Field → ℕ → Heading → Heading
at_field field left h = record h { field = field; left = left; value = 0 }

-- ---- Behind each field

-- the least has one header without data
abbrev pub total_over : ℕ → Heading → Headed
total_over total h =
    if nat_lt total 10 then read.Wrong faults.Length
    else read.On (record (at_field fields.Length 4 h) { total = total - 4 })

abbrev pub length_over : ℕ → Heading → Headed
length_over length h =
    if nat_lt length 6 || nat_lt h.total length then read.Wrong faults.Length
    else read.On (record (at_field fields.Kind 2 h) { length = length })

-- One of the headers names a transaction.
abbrev pub header_over : Heading → Headed
header_over h =
    if nat_lt h.length h.total
    then read.On (record (at_field fields.Length 4 h) { total = h.total - h.length })
    else if h.named then read.Over
    else read.Wrong faults.NoTransaction

-- 2: a transaction's descriptor in 8 bytes, and a count in 4 (2.2.5.3.2)
abbrev pub naming : Heading → Headed
naming h =
    if h.named then read.Wrong faults.TwoTransactions
    else if h.length == 18 then read.On (at_field fields.Descriptor 8 h)
    else read.Wrong faults.Length

abbrev pub passing : Heading → Headed
passing h =
    if nat_lt 6 h.length then read.On (at_field fields.Rest (h.length - 6) h) else header_over h

-- 1 is of a query notification, 3 of a trace (2.2.5.3.1, 2.2.5.3.3)
abbrev pub kind_over : ℕ → Heading → Headed
kind_over kind h =
    if kind == 2 then naming h else if (kind == 1) || (kind == 3) then passing h
    else read.Wrong faults.Kind

abbrev pub descriptor_over : Heading → Headed
descriptor_over h = read.Names h.value (record (at_field fields.Rest 4 h) { named = true })

abbrev pub field_over : Field → Heading → Headed
field_over fields.Total h = total_over (h.value / 4294967296) h
field_over fields.Length h = length_over (h.value / 4294967296) h
field_over fields.Kind h = kind_over (h.value / 281474976710656) h
field_over fields.Descriptor h = descriptor_over h
field_over fields.Rest h = header_over h

-- ---- A byte of it

-- what was spelled stands in the highest of eight bytes
abbrev pub spelled_with : ℕ → ℕ → ℕ
spelled_with value byte = value / 256 + byte * 72057594037927936

unfoldable pub heading_by : Heading → ℕ → Headed
heading_by h byte =
    let here = record h { value = spelled_with h.value byte } in
    if nat_lt 1 h.left then read.On (record here { left = h.left - 1 }) else field_over h.field here
