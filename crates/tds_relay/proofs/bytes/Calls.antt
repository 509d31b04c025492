-- Where parsers stood, they stand behind one call and the next.
use Rattle.std.proofs.Common.{◌≡◌, sym, subst}
use Rattle.std.specs.Prelude.{Result, Ok, Err, OnOk}
use Rattle.tds_relay.specs.declared.pool.Pool as code
use Rattle.tds_service.specs.declared.service.Service as services
use Rattle.tds_service.specs.Sizes.{KeepsSize}
use Rattle.tds_relay.specs.TokenParsers.{AllStand, IsStanding, OfSize}

pub stand_on : {A E : Type 0} (r : Result A E) (s t u : services.Service) → AllStand s t → OnOk r (AllStand t u) → OnOk r (AllStand s u)
stand_on (Ok x) s t u first next = λ n r h. next n r (first n r h)
stand_on (Err e) s t u first next = tt

-- the pool is as it was
pub stand_at : (s : services.Service) (d e : code.Pool) → AllStand s d.service → e ≡ d → AllStand s e.service
stand_at s d e first same n r h = subst (λ (x : code.Pool). IsStanding n r x.service) (sym same) (first n r h)

pub stand_pool : {A E : Type 0} (r : Result A E) (s : services.Service) (d e : code.Pool) → AllStand s d.service → OnOk r (e ≡ d) → OnOk r (AllStand s e.service)
stand_pool (Ok x) s d e first same = stand_at s d e first same
stand_pool (Err x) s d e first same = tt

pub stand_back : (d e : code.Pool) (u : services.Service) → e ≡ d → AllStand e.service u → AllStand d.service u
stand_back d e u same next n r h = next n r (subst (λ (x : code.Pool). IsStanding n r x.service) (sym same) h)

pub stand_from : {A E : Type 0} (r : Result A E) (d e : code.Pool) (u : services.Service) → e ≡ d → OnOk r (AllStand e.service u) → OnOk r (AllStand d.service u)
stand_from (Ok x) d e u same next = stand_back d e u same next
stand_from (Err x) d e u same next = tt

-- packets of as many bytes go out
pub size_on : {A E : Type 0} (r : Result A E) (s t u : services.Service) → KeepsSize s t → OnOk r (AllStand t u) → OnOk r (KeepsSize s u)
size_on (Ok x) s t u first next = λ size h. next 0 (OfSize size) (first size h)
size_on (Err e) s t u first next = tt
