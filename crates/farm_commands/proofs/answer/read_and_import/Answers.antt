use Rattle.std.proofs.Common.{subst, sym}
use Rattle.farm_answers.specs.Files.{named}
use Rattle.farm_commands.specs.Folders.{IsRead}
use Rattle.farm_commands.proofs.MakingLaws.{indexes-named}
use Rattle.farm_commands.proofs.answer.read_and_import.Goals as goal

pub returns : goal.returns
returns g c =
    let read = named (g.F.Source.held c.args.folder.now) (g.F.Source.given c.args.folder.now) in
    let asked = c.args.asked.now in (
      record {
        wish = c.deref-7.result;
        packages = c.deref-8.result;
        archive = c.deref-9.result;
        sources = c.deref-10.result;
      },
      record {
        wish = subst (IsRead 67108865 (read asked.wish.now)) (sym c.deref-7.ensures.value)
            c.in_ok-wish.ensures;
        packages = indexes-named read asked.packages.items c.deref-2.result.now
            c.in_ok-packages.packages.items c.deref-5.result.now
            c.in_ok-packages-2.packages.items c.deref-8.result.now
            c.deref-2.ensures.value c.in_ok-packages.ensures c.deref-5.ensures.value
            c.in_ok-packages-2.ensures c.deref-8.ensures.value;
        archive = indexes-named read asked.archive.items c.deref.result.now
            c.in_ok-archive.archive.items c.deref-4.result.now
            c.in_ok-archive-2.archive.items c.deref-9.result.now
            c.deref.ensures.value c.in_ok-archive.ensures c.deref-4.ensures.value
            c.in_ok-archive-2.ensures c.deref-9.ensures.value;
        sources = indexes-named read asked.sources.items c.deref-3.result.now
            c.in_ok-sources.sources.items c.deref-6.result.now
            c.in_ok-sources-2.sources.items c.deref-10.result.now
            c.deref-3.ensures.value c.in_ok-sources.ensures c.deref-6.ensures.value
            c.in_ok-sources-2.ensures c.deref-10.ensures.value;
      },
      c.in_ok-made.ensures,
    )
