mod NoFiles
