use Rattle.std.proofs.Common.{◌≡◌, Err, rules}
use Rattle.tds_request.specs.declared.fault.RequestFault.TheVariants.{Memory}
use Rattle.tds_request.proofs.Memoryless.{gives_memory, no_memory_in_headers, no_memory_in_transaction}
use Rattle.tds_request.proofs.decoding.message.Goals as goal

pub returns-in_err-descriptor-clause-batch : goal.returns-in_err-descriptor-clause-batch
returns-in_err-descriptor-clause-batch c = λ e.
    let none : c.headers.result ≡ Err Memory = search rules in
    absurd (no_memory_in_headers _ (gives_memory _ c.headers.result _ c.headers.ensures none))

pub returns-in_err-request-in-Transaction-clause-batch : goal.returns-in_err-request-in-Transaction-clause-batch
returns-in_err-request-in-Transaction-clause-batch c = λ e.
    let none : c.transaction.result ≡ Err Memory = search rules in
    absurd (no_memory_in_transaction _ (gives_memory _ c.transaction.result _ c.transaction.ensures none))
