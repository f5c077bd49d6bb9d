use Rattle.roman_text.proofs.Common.{◌∙◌, arith, take_all, length-chunk, put_chunk_whole, chunk}
use Rattle.roman_text.proofs.page.copy_name.Goals as goal

pub returns : goal.returns
returns c =
    let name = c.args.name.now in
    put_chunk_whole c.args.room.now (chunk 0 32 name) (omega (arith, c.requires, length-chunk 0 32 name (omega arith))) ∙ take_all 32 name (omega arith)
