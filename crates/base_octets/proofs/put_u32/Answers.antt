use Rattle.std.proofs.Common.{ap, ◌∙◌}
use Rattle.std.proofs.lemmas.List.Edits.{sets}
use Rattle.base_octets.proofs.Laws.{be_of-bytes}
use Rattle.base_octets.proofs.put_u32.Goals as goal

pub returns : goal.returns
returns c = c.put.ensures ∙ ap (sets c.args.out.now c.args.at) (c.to_be_bytes.ensures ∙ be_of-bytes 4 c.args.v)
