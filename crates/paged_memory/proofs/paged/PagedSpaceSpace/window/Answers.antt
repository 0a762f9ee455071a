-- What a window tells of the view that it was fetched at.
use Rattle.std.proofs.Common.{◌∙◌, ap, Ok}
use Rattle.image_memory.specs.Contents.{Contents}
use Rattle.image_memory.specs.declared.types.Window.{Window}
use Rattle.image_memory.specs.laws.WindowLaws.{window_tells}
use Rattle.paged_memory.specs.Pages.{pieces_of}
use Rattle.paged_memory.specs.declared.paged.PagedSpace.{PagedSpace}
use Rattle.paged_memory.proofs.paged.PagedSpaceSpace.window.Goals as goal

abbrev held : PagedSpace → Contents
held space = record {
  pieces = pieces_of space.table.extents.items space.table.pages.items;
  fences = space.retired.fences;
}

pub returns-in-Some-clause-tells : goal.returns-in-Some-clause-tells
returns-in-Some-clause-tells c =
    window_tells (held c.args.self.now) c.args.pc _ (ap (λ (w : Window). Ok w) c.code_in.ensures ∙ c.in-Some.ensures.exact)

pub returns-in-None-clause-tells : goal.returns-in-None-clause-tells
returns-in-None-clause-tells c =
    window_tells (held c.args.self.now) c.args.pc c.window.result c.window.ensures.exact
