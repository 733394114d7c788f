-- The room is for one byte more than a sheet may have.
use Rattle.std.proofs.Common.{◌≡◌, ◌+◌, length, rules}
use Rattle.sheet.specs.Sheet.{sheet_most}
use Rattle.input.proofs.Whole.{whole_read}
use Rattle.input.proofs.read_sheet.Goals as goal

pub returns-clause-whole : goal.returns-clause-whole
returns-clause-whole g c =
    let size : length c.read_full.new.room ≡ sheet_most + 1 = search rules in
    whole_read c.read_full.result _ _ c.read_full.new.room size c.read_full.ensures.within c.read_full.ensures.bytes c.read_full.ensures.end
