use Rattle.limited_book.proofs.Needs.{bytes_needed, entries_needed, fits_so, full_so}
use Rattle.limited_book.proofs.limited.LimitedBooks.fits.Goals as goal

pub returns-clause-fits : goal.returns-clause-fits
returns-clause-fits c =
    let members = c.args.self.now.members in
    let call = c.args.call.now in
    let entries = entries_needed members call c.args.reply c.requires.due c.requires.no_opening _ _ c.used-used.ensures.entries c.reserved_after-rest.ensures.entries in
    let bytes = bytes_needed members call c.args.reply c.requires.due c.requires.no_opening _ _ _ c.used-used.ensures.bytes c.own_bytes.ensures.bytes c.reserved_after-rest.ensures.bytes in
    fits_so members call _ _ entries bytes c.within_limits.result c.within_limits.ensures.within

pub returns-clause-full : goal.returns-clause-full
returns-clause-full c =
    let members = c.args.self.now.members in
    let call = c.args.call.now in
    let entries = entries_needed members call c.args.reply c.requires.due c.requires.no_opening _ _ c.used-used.ensures.entries c.reserved_after-rest.ensures.entries in
    let bytes = bytes_needed members call c.args.reply c.requires.due c.requires.no_opening _ _ _ c.used-used.ensures.bytes c.own_bytes.ensures.bytes c.reserved_after-rest.ensures.bytes in
    full_so members call _ _ entries bytes c.within_limits.result c.within_limits.ensures.over
