use Rattle.tds_judge.specs.Told as told
use Rattle.tds_judge.proofs.Each.{before_by, compute_by, direction_by, encrypted_by, headers_by, ignore_by, length_by, no_tds_by, not_full_by, size_by, stands, taken_up_by, token_by, unfinished_by, version_by}
use Rattle.tds_judge.proofs.laws.packets_are_told.Goals as goal

pub returns-clause-token : goal.returns-clause-token
returns-clause-token c = stands 21 told.is_wrong_token token_by

pub returns-clause-size : goal.returns-clause-size
returns-clause-size c = stands 22 told.is_wrong_size size_by

pub returns-clause-length : goal.returns-clause-length
returns-clause-length c = stands 23 (λ past. told.is_wrong_length) length_by

pub returns-clause-unfinished : goal.returns-clause-unfinished
returns-clause-unfinished c = stands 25 (λ past. told.is_unfinished_message) unfinished_by

pub returns-clause-taken_up : goal.returns-clause-taken_up
returns-clause-taken_up c = stands 27 (λ past. told.is_taken_up) taken_up_by

pub returns-clause-version : goal.returns-clause-version
returns-clause-version c = stands 30 told.is_other_version version_by

pub returns-clause-compute : goal.returns-clause-compute
returns-clause-compute c = stands 31 (λ past. told.is_compute) compute_by

pub returns-clause-ignore : goal.returns-clause-ignore
returns-clause-ignore c = stands 37 (λ past. told.is_ignore_unended) ignore_by

pub returns-clause-direction : goal.returns-clause-direction
returns-clause-direction c = stands 38 (λ past. told.is_wrong_direction) direction_by

pub returns-clause-headers : goal.returns-clause-headers
returns-clause-headers c = stands 40 told.is_wrong_headers headers_by

pub returns-clause-full : goal.returns-clause-full
returns-clause-full c = stands 41 told.is_not_full not_full_by

pub returns-clause-login : goal.returns-clause-login
returns-clause-login c = stands 42 told.is_before_login before_by

pub returns-clause-encrypted : goal.returns-clause-encrypted
returns-clause-encrypted c = stands 28 (λ past. told.is_encrypted) encrypted_by

pub returns-clause-no_tds : goal.returns-clause-no_tds
returns-clause-no_tds c = stands 29 (λ past. told.is_no_tds) no_tds_by
